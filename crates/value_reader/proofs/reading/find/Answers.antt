use Rattle.std.proofs.Common.{rules, ℕ, ◌≡◌, ◌<◌, ◌≤◌, ◌∙◌, sym, ap, length, map, Bool, Some, arith, List, get_or}
use Rattle.std.proofs.lemmas.List.{length-map}
use Rattle.spec_core.specs.Numbers.{sort_number}
use Rattle.spec_core.specs.Theories.{Operation, operation_of, operations_of}
use Rattle.spec_core.proofs.Spelling.{operation-at}
use Rattle.value_reader.specs.Stands.{is_call}
use Rattle.value_reader.specs.Views.{bytes_of}
use Rattle.value_reader.proofs.Lookups.{first_here, none_at_all, none_more}
use Rattle.value_reader.proofs.reading.find.Goals as goal

pub returns-in-Ok : goal.returns-in-Ok
returns-in-Ok c =
    let p : Operation → Bool = is_call c.args.signature.now.sorts.items c.args.name.now (map sort_number c.args.args.now) (bytes_of c.args.sort) in
    let same : c.deref-declaration-items.result.now ≡ c.args.signature.now.ops.items = search rules in
    let within : c.loop-i.i < length c.args.signature.now.ops.items = omega (arith, c.loop-i-test.true, ap length same) in
    let at =
    operation-at c.args.signature.now.ops.items c.loop-i.i c.declaration-item.result within
    (c.declaration-item.is ∙ ap (λ l. get_or l c.loop-i.i c.declaration-item.result) same) in
    let number : c.in-Ok.number ≡ c.loop-i.i = search rules in
    ap Some number
    ∙ sym (first_here p (operations_of c.args.signature.now) c.loop-i.i (operation_of c.declaration-item.result) c.loop-i.invariant at
    (ap (λ (l : List (List ℕ)). is_call l c.args.name.now (map sort_number c.args.args.now) (bytes_of c.args.sort)
    (operation_of c.declaration-item.result)) (sym c.deref.ensures.value) ∙ sym c.is_call.ensures ∙ c.if-is_call.true))

pub loop-i-preserved : goal.loop-i-preserved
loop-i-preserved c =
    let p : Operation → Bool = is_call c.args.signature.now.sorts.items c.args.name.now (map sort_number c.args.args.now) (bytes_of c.args.sort) in
    let same : c.deref-declaration-items.result.now ≡ c.args.signature.now.ops.items = search rules in
    let within : c.loop-i.i < length c.args.signature.now.ops.items = omega (arith, c.loop-i-test.true, ap length same) in
    let at =
    operation-at c.args.signature.now.ops.items c.loop-i.i c.declaration-item.result within
    (c.declaration-item.is ∙ ap (λ l. get_or l c.loop-i.i c.declaration-item.result) same) in
    none_more p (operations_of c.args.signature.now) c.loop-i.i (operation_of c.declaration-item.result) c.loop-i.invariant at
    (ap (λ (l : List (List ℕ)). is_call l c.args.name.now (map sort_number c.args.args.now) (bytes_of c.args.sort)
    (operation_of c.declaration-item.result)) (sym c.deref.ensures.value) ∙ sym c.is_call.ensures ∙ c.if-is_call.false)

pub returns : goal.returns
returns c =
    let p : Operation → Bool = is_call c.args.signature.now.sorts.items c.args.name.now (map sort_number c.args.args.now) (bytes_of c.args.sort) in
    let same : c.deref-declaration-items.result.now ≡ c.args.signature.now.ops.items = search rules in
    let size : length (operations_of c.args.signature.now) ≡ length c.args.signature.now.ops.items = search (rules, length-map) in
    let done : length (operations_of c.args.signature.now) ≤ c.loop-i.i = omega (arith, c.loop-i-test.false, ap length same, size) in
    sym (none_at_all p (operations_of c.args.signature.now) c.loop-i.i done c.loop-i.invariant)
