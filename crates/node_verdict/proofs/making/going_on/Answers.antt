use Rattle.std.proofs.Common.{rules, Ok, refl}
use Rattle.symbolic_actions.specs.Shows.{over_part, before_end, undisabled}
use Rattle.node_verdict.proofs.Filling.{made_some}
use Rattle.node_verdict.proofs.making.going_on.Goals as goal

pub returns-in-Ok-Some-clause-enabling : goal.returns-in-Ok-Some-clause-enabling
returns-in-Ok-Some-clause-enabling c = λ theory w.
    made_some (over_part theory w before_end) c.args.part (Ok c.going_on.result) c.in-Ok-Some.shown c.going_on.result (search rules) refl
    (c.going_on.ensures.enabling theory w)

pub returns-in-Ok-Some-clause-disabling : goal.returns-in-Ok-Some-clause-disabling
returns-in-Ok-Some-clause-disabling c = λ theory w.
    made_some (over_part theory w undisabled) c.args.part (Ok c.going_on.result) c.in-Ok-Some.shown c.going_on.result (search rules) refl
    (c.going_on.ensures.disabling theory w)
