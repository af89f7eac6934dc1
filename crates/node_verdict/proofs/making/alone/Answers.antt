use Rattle.std.proofs.Common.{rules, Ok, refl}
use Rattle.spec_core.specs.Code.{synchronised_of}
use Rattle.symbolic_actions.specs.Shows.{over_part, left_alone, right_alone}
use Rattle.node_verdict.proofs.Filling.{made_some}
use Rattle.node_verdict.proofs.making.alone.Goals as goal

pub returns-in-Ok-Some-clause-left : goal.returns-in-Ok-Some-clause-left
returns-in-Ok-Some-clause-left c = λ theory w.
    made_some (over_part theory w (left_alone (synchronised_of c.args.gates.now))) c.args.part (Ok c.alone.result) c.in-Ok-Some.shown c.alone.result (search rules) refl
    (c.alone.ensures.left theory w)

pub returns-in-Ok-Some-clause-right : goal.returns-in-Ok-Some-clause-right
returns-in-Ok-Some-clause-right c = λ theory w.
    made_some (over_part theory w (right_alone (synchronised_of c.args.gates.now))) c.args.part (Ok c.alone.result) c.in-Ok-Some.shown c.alone.result (search rules) refl
    (c.alone.ensures.right theory w)
