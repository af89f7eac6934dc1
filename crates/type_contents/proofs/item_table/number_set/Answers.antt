use Rattle.std.proofs.Common.{◌∙◌, ap, nat_eq}
use Rattle.std.specs.List.{list_any}
use Rattle.std.proofs.lemmas.List.{take_all}
use Rattle.type_contents.specs.Lists.{each_once}
use Rattle.type_contents.proofs.Found.{any_once}
use Rattle.type_contents.proofs.item_table.number_set.Goals as goal

pub returns-clause-among : goal.returns-clause-among
returns-clause-among c = λ n.
    ap (list_any (nat_eq n)) (c.loop-number.invariant ∙ ap (each_once nat_eq) (take_all c.loop-number.number-index c.args.numbers.now c.loop-number-test.false)) ∙ any_once n c.args.numbers.now
