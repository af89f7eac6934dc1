use Rattle.std.proofs.Common.{map}
use Rattle.type_contents.specs.Numbering as numbering
use Rattle.type_contents.specs.Views.{brought_at}
use Rattle.std.proofs.Common.{ap, ◌∙◌}
use Rattle.type_contents.proofs.Broughts.{one_brings}
use Rattle.type_contents.proofs.brought.bring_one.Goals as goal

pub returns-clause-settled : goal.returns-clause-settled
returns-clause-settled c n ready settled =
    one_brings c.args.types.now c.args.found.now.items n c.args.number record { all = c.in_ok-all.all } c.index-types-number.result c.requires.length c.requires.number c.index-types-number.is
    (c.in_ok-all.ensures ∙ ap (λ z. numbering.brings c.args.types.now (map brought_at z) c.index-types-number.result) c.deref.ensures.value) ready settled
