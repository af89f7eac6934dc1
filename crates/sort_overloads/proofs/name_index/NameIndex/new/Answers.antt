use Rattle.std.proofs.Common.{◌++◌, ◌∷◌, [], map, take, string_bytes, bytes_eq, if◌then◌else◌, ap, sym, ◌∙◌}
use Rattle.std.specs.Char.{to_ascii_lowercase}
use Rattle.std.proofs.lemmas.List.{take_all}
use Rattle.spec_core.specs.Theories.{operation_of}
use Rattle.sort_overloads.specs.Indexes.{numbers_of}
use Rattle.sort_overloads.proofs.Numbered.{numbers-next, same-either-way}
use Rattle.sort_overloads.proofs.name_index.NameIndex.new.Goals as goal

pub loop-i-preserved : goal.loop-i-preserved
loop-i-preserved c = λ name.
    let small = map to_ascii_lowercase name in
    let before = numbers_of name (map operation_of (take c.loop-i.i c.args.operations.now)) in
    c.in_ok-add.ensures small
    ∙ ap (λ z. z ++ (if bytes_eq small (string_bytes c.in_ok-name.name) then c.loop-i.i ∷ [] else [])) (c.loop-i.invariant name)
    ∙ ap (λ z. before ++ (if z then c.loop-i.i ∷ [] else [])) (ap (bytes_eq small) (c.in_ok-name.ensures ∙ ap (map to_ascii_lowercase) c.as_str.ensures) ∙ same-either-way small (map to_ascii_lowercase c.index-operations-i.result.name))
    ∙ sym (numbers-next operation_of name c.args.operations.now c.loop-i.i c.index-operations-i.result c.loop-i-test.true c.index-operations-i.is)

pub returns : goal.returns
returns c = record { index = λ name. c.loop-i.invariant name ∙ ap (λ z. numbers_of name (map operation_of z)) (take_all c.loop-i.i c.args.operations.now c.loop-i-test.false) }
