use Rattle.std.proofs.Common.{rules, refl, ◌≡◌, ◌<◌, ◌≤◌, ◌++◌, map, length, ap, sym, ◌∙◌, arith, string_bytes}
use Rattle.std.proofs.lemmas.List.{take_all}
use Rattle.std.proofs.lemmas.Result.{on_ok_weaker}
use Rattle.spec_core.specs.declared.term.Term.TheFolds.{the_lemmas}
use Rattle.spec_core.specs.Terms.{apply, terms, term_of}
use Rattle.spec_core.specs.TermText.{separator, closing, opening, first_gap, joined, term_texts, between_at}
use Rattle.spec_core.specs.Theories.{operation_of, operations_of}
use Rattle.spec_core.proofs.Spelling.{operation-at, no-operation-at, argument_added, spelled, unspelled}
use Rattle.spec_core.proofs.term_text.+put_term.Goals as goal

pub loop-i-preserved : goal.loop-i-preserved
loop-i-preserved t c =
    let n : c.len-in-loop-i.result ≡ length c.in-App.args.items =
    c.len-in-loop-i.ensures ∙ sym c.deref-arg-items.ensures.len ∙ ap length c.deref-arg-items.ensures.value in
    argument_added c.args.signature.now.sorts.items (operations_of c.args.signature.now) c.args.names.now
    (separator c.index-declaration.result.now.name (length c.in-App.args.items))
    c.in-App.args.items c.deref-arg-items.result.now c.loop-i.i c.arg-item.result _ (string_bytes c.put_opening.new.out) _ _
    c.deref-arg-items.ensures.value c.loop-i-test.true c.arg-item.is c.loop-i.invariant
    (c.in_ok-put_separator-in-App.ensures
    ∙ ap (λ k. string_bytes c.loop-i.out ++ between_at (separator c.index-declaration.result.now.name k) c.loop-i.i) n)
    c.in_ok-put_term-in-App.ensures

pub returns-in_ok-put_closing-in-App : goal.returns-in_ok-put_closing-in-App
returns-in_ok-put_closing-in-App t c =
    let k : term_of c.args.term.now ≡ apply c.in-App.op.0 (terms (map term_of c.in-App.args.items)) = search (rules, the_lemmas) in
    let within : c.in-App.op.0 < length c.args.signature.now.ops.items =
    (let h = c.len.ensures in let l = c.if-place-len.true in omega (arith, h, l)) in
    let d = operation-at c.args.signature.now.ops.items c.in-App.op.0 c.index-declaration.result.now within c.index-declaration.ensures in
    let n : c.len-then-place-len.result ≡ length c.in-App.args.items =
    c.len-then-place-len.ensures ∙ sym c.deref-arg-items.ensures.len ∙ ap length c.deref-arg-items.ensures.value in
    let ended : length c.in-App.args.items ≤ c.loop-i.i =
    (let l = c.loop-i-test.false in let h = ap length c.deref-arg-items.ensures.value in omega (arith, l, h)) in
    let opened =
    c.in_ok-put_opening-in-App.ensures
    ∙ ap (λ ts.
    string_bytes c.args.out.now ++
    (opening c.index-declaration.result.now.name (length ts) ++
    first_gap (operations_of c.args.signature.now) c.args.names.now (terms (map term_of ts))))
    c.deref.ensures.value in
    let all =
    c.loop-i.invariant
    ∙ ap (λ ts.
    string_bytes c.put_opening.new.out ++
    joined (separator c.index-declaration.result.now.name (length c.in-App.args.items))
    (term_texts c.args.signature.now.sorts.items (operations_of c.args.signature.now) c.args.names.now
    (terms (map term_of ts))))
    (take_all c.loop-i.i c.in-App.args.items ended) in
    let closed = c.in_ok-put_closing-in-App.ensures ∙ ap (λ m. string_bytes c.loop-i.out ++ closing m) n in
    on_ok_weaker c.put_sort.result
    (λ h.
    spelled c.args.signature.now.sorts.items (operations_of c.args.signature.now) c.args.names.now _ c.in-App.op.0
    c.in-App.args.items (operation_of c.index-declaration.result.now) (length c.in-App.args.items) _ _ _ _ _ k d refl opened all
    closed h)
    c.put_sort.ensures

pub returns-else-place-len : goal.returns-else-place-len
returns-else-place-len t c =
    let k : term_of c.args.term.now ≡ apply c.in-App.op.0 (terms (map term_of c.in-App.args.items)) = search (rules, the_lemmas) in
    unspelled c.args.signature.now.sorts.items (operations_of c.args.signature.now) c.args.names.now _ c.in-App.op.0 c.in-App.args.items _ k
    (no-operation-at c.args.signature.now.ops.items c.in-App.op.0
    (let h = c.len.ensures in let l = c.if-place-len.false in omega (arith, h, l)))
