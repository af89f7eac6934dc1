use Rattle.std.proofs.Common.{map}
use Rattle.type_contents.specs.Numbering as numbering
use Rattle.type_contents.specs.Views.{brought_at}
use Rattle.std.proofs.Common.{ap, ◌∙◌, add-one}
use Rattle.type_contents.proofs.Broughts.{none_brought}
use Rattle.type_contents.proofs.brought.brought_by_rounds.Goals as goal

pub loop-round-init : goal.loop-round-init
loop-round-init c = none_brought c.args.types.now c.in_ok-found.found.items c.in_ok-found.ensures

pub loop-round-preserved : goal.loop-round-preserved
loop-round-preserved c =
    rw add-one (c.in_ok-found-2.ensures ∙ ap (λ z. map (numbering.brings c.args.types.now (map brought_at z)) c.args.types.now) c.deref.ensures.value ∙ ap (λ z. map (numbering.brings c.args.types.now z) c.args.types.now) c.loop-round.invariant)
