use Rattle.std.proofs.Common.{rules, ◌≡◌, ◌<◌, ◌-◌, ◌∙◌, ◌∷◌, ◌++◌, [], sym, ap, length, map, reverse, arith, ℕ, Some, option_map, List}
use Rattle.spec_core.specs.Numbers.{op_number, sort_number}
use Rattle.spec_core.specs.Theories.{operations_of, theory_of}
use Rattle.spec_core.proofs.Spelling.{operation-at}
use Rattle.value_reader.specs.Stands.{first_at, is_call, result_of}
use Rattle.value_reader.specs.Views.{bytes_of, state_of}
use Rattle.value_reader.proofs.Taking.{made, pushed_first, stack_length}
use Rattle.value_reader.proofs.reading.apply.Goals as goal

pub returns : goal.returns
returns c =
    let items = c.args.reading.now.sorts.items in
    let so : List ℕ = reverse (map sort_number items) in
    let n : ℕ = length items - c.args.base in
    let count : n ≡ length so - c.args.base = ap (λ k. k - c.args.base) (sym (stack_length sort_number items)) in
    let found : Some c.in-Some.op.0 ≡ first_at
    (is_call c.args.algebra.now.signature.sorts.items c.args.name.now (map sort_number c.in_ok-args.args.items) (bytes_of c.args.sort))
    (operations_of c.args.algebra.now.signature) =
    ap (option_map op_number) (sym c.in-Some.is) ∙ c.in_ok-find.ensures
    ∙ ap (λ l. first_at (is_call c.args.algebra.now.signature.sorts.items c.args.name.now (map sort_number l) (bytes_of c.args.sort))
    (operations_of c.args.algebra.now.signature)) c.deref.ensures.value in
    let within : c.in-Some.op.0 < length c.args.algebra.now.signature.ops.items =
    (let h = c.len.ensures in let l = c.if-place-len.false in omega (arith, h, l)) in
    let at = operation-at c.args.algebra.now.signature.ops.items c.in-Some.op.0 c.index.result.now within c.index.ensures in
    let pushed : c.push.new.self.items ≡ c.take_sorts.new.sorts.items ++ c.index.result.now.result ∷ [] = search rules in
    let added : c.push-in-Some.new.self.items ≡ c.args.reading.now.ops.items ++ c.in-Some.op ∷ [] = search rules in
    made (theory_of c.args.algebra.now) c.args.name.now c.args.base n (bytes_of c.args.sort) (state_of c.args.reading.now).brackets so
    (state_of c.args.reading.now).value (map sort_number c.in_ok-args.args.items) c.in-Some.op.0 c.index.result.now.result.0
    (reverse (map sort_number c.push.new.self.items)) (reverse (map op_number c.push-in-Some.new.self.items)) count
    c.in_ok-args.ensures.taken found (ap result_of (sym at))
    (pushed_first sort_number c.take_sorts.new.sorts.items c.push.new.self.items c.index.result.now.result pushed
    ∙ ap (λ l. c.index.result.now.result.0 ∷ l) c.in_ok-args.ensures.left)
    (pushed_first op_number c.args.reading.now.ops.items c.push-in-Some.new.self.items c.in-Some.op added)
