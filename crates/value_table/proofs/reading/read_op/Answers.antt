use Rattle.std.proofs.Common.{rules, ◌≡◌, ◌∙◌, arith, sym, subst, true, false, Some, None, length, map, reverse, take, IsTrue}
use Rattle.std.proofs.lemmas.List.{length-map, length-reverse}
use Rattle.spec_core.specs.Lists.{Each}
use Rattle.spec_core.specs.Numbers.{sort_number}
use Rattle.spec_core.specs.Sorts.{HaveSorts, no_variables}
use Rattle.spec_core.specs.Terms.{terms}
use Rattle.spec_core.specs.Theories.{operation_of, theory_of}
use Rattle.spec_core.proofs.Lists.{each_push, each_take}
use Rattle.value_table.specs.Tables.{tree_at, IsRow}
use Rattle.value_table.proofs.Spelled.{call_fits, each_drop, each_in_reverse, each_reverse, enough_taken, first_sorts, op_spelled}
use Rattle.value_table.proofs.Spelled.{takes_first, trees_fit}
use Rattle.value_table.proofs.Tables.{still_rows}
use Rattle.value_table.proofs.reading.read_op.Goals as goal

pub returns-in-None-clause-none : goal.returns-in-None-clause-none
returns-in-None-clause-none c = λ f h.
    let all = reverse c.args.rows.now.items in
    let x = takes_first (theory_of c.args.algebra.now) c.args.op.0 (map (tree_at c.args.table.now) all)
    (trees_fit (theory_of c.args.algebra.now) c.args.table.now c.requires.fit all (each_reverse
    (IsRow c.args.table.now) _ c.requires.there))
    h in
    let n : Some x.declared ≡ None = sym x.found ∙ c.in-None.ensures.none in
    let z : ⊥ = cc in z

pub returns-then-len-count-clause-none : goal.returns-then-len-count-clause-none
returns-then-len-count-clause-none c = λ f h.
    let all = reverse c.args.rows.now.items in
    let x = takes_first (theory_of c.args.algebra.now) c.args.op.0 (map (tree_at c.args.table.now) all)
    (trees_fit (theory_of c.args.algebra.now) c.args.table.now c.requires.fit all (each_reverse
    (IsRow c.args.table.now) _ c.requires.there))
    h in
    let n = enough_taken (theory_of c.args.algebra.now) c.args.table.now c.args.op.0 all (operation_of c.in-Some.declared.now)
    c.in-Some.ensures.some x in
    let l = length-map c.in-Some.declared.now.args.items sort_number in
    let r = length-reverse c.args.rows.now.items in
    omega (arith, n, l, r, c.if-len-count.true)

pub have_sorts-requires-clause-there : goal.have_sorts-requires-clause-there
have_sorts-requires-clause-there c =
    let e : c.deref.result.now ≡ take c.len-count.result (reverse c.args.rows.now.items) = search rules in
    subst (Each (IsRow c.args.table.now)) (sym e)
    (each_take (IsRow c.args.table.now) c.len-count.result (reverse c.args.rows.now.items)
    (each_reverse (IsRow c.args.table.now) c.args.rows.now.items c.requires.there))

pub make-requires : goal.make-requires
make-requires c = record {
  there =
      subst (Each (IsRow c.args.table.now)) (sym c.in_ok-args-in-Some.ensures.taken)
      (each_take (IsRow c.args.table.now) c.len-count.result (reverse c.args.rows.now.items)
      (each_reverse (IsRow c.args.table.now) c.args.rows.now.items c.requires.there));
}

pub returns-then-not-have_sorts-clause-none : goal.returns-then-not-have_sorts-clause-none
returns-then-not-have_sorts-clause-none c = λ f h.
    let all = reverse c.args.rows.now.items in
    let x = takes_first (theory_of c.args.algebra.now) c.args.op.0 (map (tree_at c.args.table.now) all)
    (trees_fit (theory_of c.args.algebra.now) c.args.table.now c.requires.fit all (each_reverse
    (IsRow c.args.table.now) _ c.requires.there))
    h in
    let e : c.deref.result.now ≡ take c.len-count.result (reverse c.args.rows.now.items) = search rules in
    let d : c.deref-in-Some.result.now ≡ c.in-Some.declared.now.args.items = search rules in
    let k : c.len-count.result ≡ length c.in-Some.declared.now.args.items = search rules in
    let l = length-map c.in-Some.declared.now.args.items sort_number in
    let s = first_sorts (theory_of c.args.algebra.now) c.args.table.now c.args.op.0 c.len-count.result all c.deref.result.now
    (operation_of c.in-Some.declared.now) (k ∙ sym l) e c.in-Some.ensures.some x in
    let y : IsTrue c.have_sorts.result =
    c.have_sorts.ensures.decides.1
    (subst
    (λ sorts. HaveSorts (theory_of c.args.algebra.now) no_variables (terms (map (tree_at c.args.table.now) c.deref.result.now))
    (map sort_number sorts)) (sym d) s) in
    let n : true ≡ false = sym y ∙ c.if-not-have_sorts.true in
    let z : ⊥ = cc in z

pub returns-in_ok-push-in-Some-clause-fit : goal.returns-in_ok-push-in-Some-clause-fit
returns-in_ok-push-in-Some-clause-fit c =
    let a : c.deref.result.now ≡ c.in_ok-args-in-Some.args.items = search rules in
    let d : c.deref-in-Some.result.now ≡ c.in-Some.declared.now.args.items = search rules in
    let s = c.have_sorts.ensures.decides.0 c.if-not-have_sorts.false in
    let t : HaveSorts (theory_of c.args.algebra.now) no_variables
    (terms (map (tree_at c.args.table.now) c.in_ok-args-in-Some.args.items)) (map sort_number c.in-Some.declared.now.args.items) =
    subst
    (λ is. HaveSorts (theory_of c.args.algebra.now) no_variables (terms (map (tree_at c.args.table.now) is))
    (map sort_number c.in-Some.declared.now.args.items)) a
    (subst
    (λ sorts. HaveSorts (theory_of c.args.algebra.now) no_variables (terms (map (tree_at c.args.table.now) c.deref.result.now))
    (map sort_number sorts)) d s) in
    c.in_ok-row-in-Some.ensures.fit (theory_of c.args.algebra.now)
    (call_fits (theory_of c.args.algebra.now) c.args.op.0 (terms (map (tree_at c.args.table.now) c.in_ok-args-in-Some.args.items))
    (operation_of c.in-Some.declared.now) c.in-Some.ensures.some t)
    c.requires.fit

pub returns-in_ok-push-in-Some-clause-there : goal.returns-in_ok-push-in-Some-clause-there
returns-in_ok-push-in-Some-clause-there c = λ t.
    let e = c.in_ok-push-in-Some.ensures.items in
    let old = each_in_reverse (IsRow c.args.table.now) c.take_rows.new.rows.items
    (subst (Each (IsRow c.args.table.now)) (sym c.in_ok-args-in-Some.ensures.left)
    (each_drop (IsRow c.args.table.now) c.len-count.result (reverse c.args.rows.now.items)
    (each_reverse (IsRow c.args.table.now) c.args.rows.now.items c.requires.there))) in
    subst (Each (IsRow c.make.new.self)) (sym e)
    (each_push (IsRow c.make.new.self) c.take_rows.new.rows.items c.in_ok-row-in-Some.row
    (still_rows c.args.table.now c.make.new.self c.in_ok-row-in-Some.ensures.longer c.take_rows.new.rows.items old)
    c.in_ok-row-in-Some.ensures.there)

pub returns-in_ok-push-in-Some-clause-spelled : goal.returns-in_ok-push-in-Some-clause-spelled
returns-in_ok-push-in-Some-clause-spelled c = λ t.
    op_spelled c.args.table.now c.make.new.self (reverse c.args.rows.now.items) c.in_ok-args-in-Some.args.items
    c.take_rows.new.rows.items c.push.new.self.items c.len-count.result c.in_ok-row-in-Some.row c.args.op.0
    c.in_ok-row-in-Some.ensures.longer (each_reverse (IsRow c.args.table.now) c.args.rows.now.items c.requires.there)
    c.in_ok-args-in-Some.ensures.taken c.in_ok-args-in-Some.ensures.left c.in_ok-push-in-Some.ensures.items
    c.in_ok-row-in-Some.ensures.tree
