use Rattle.std.proofs.Common.{rules, ◌<◌, length, map, arith, string_bytes}
use Rattle.std.proofs.lemmas.List.{length-map}
use Rattle.std.proofs.lemmas.Result.{on_ok_weaker}
use Rattle.spec_core.specs.Numbers.{op_number}
use Rattle.spec_core.specs.Theories.{operation_of}
use Rattle.spec_core.proofs.Spelling.{operation-at, no-operation-at}
use Rattle.value_text.specs.Values.{terms_in}
use Rattle.value_text.specs.Vocabularies.{theory_in}
use Rattle.value_text.proofs.Values.{opened_at, not_opened}
use Rattle.value_text.proofs.value.put_opening.Goals as goal

pub returns-in_ok-put_operation : goal.returns-in_ok-put_operation
returns-in_ok-put_operation c =
    let within : c.args.op.0 < length c.args.vocabulary.now.checked.now.algebra.signature.ops.items =
    (let h = c.len.ensures in let l = c.if-place-len.true in omega (arith, h, l)) in
    let at = operation-at c.args.vocabulary.now.checked.now.algebra.signature.ops.items c.args.op.0 c.index-declaration.result.now within
    c.index-declaration.ensures in
    on_ok_weaker c.put_first_gap.result
    (λ h.
    opened_at (theory_in c.args.vocabulary.now) _ (operation_of c.index-declaration.result.now) c.len-count.result
    (terms_in (theory_in c.args.vocabulary.now).operations (map op_number c.args.ops.now)) (string_bytes c.args.out.now)
    (string_bytes c.put_operation.new.out) (string_bytes c.put_first_gap.new.out) at (search (rules, length-map)) (search rules) h)
    c.put_first_gap.ensures

pub returns-else-place-len : goal.returns-else-place-len
returns-else-place-len c =
    not_opened (theory_in c.args.vocabulary.now) _ _ (string_bytes c.args.out.now)
    (no-operation-at c.args.vocabulary.now.checked.now.algebra.signature.ops.items c.args.op.0
    (let h = c.len.ensures in let l = c.if-place-len.false in omega (arith, h, l)))
