use Rattle.std.proofs.Common.{rules, Ok, refl}
use Rattle.symbolic_actions.specs.Shows.{over_part, ended}
use Rattle.node_verdict.proofs.Filling.{made_some}
use Rattle.node_verdict.proofs.making.terminated.Goals as goal

pub returns-in-Ok-Some : goal.returns-in-Ok-Some
returns-in-Ok-Some c = record {
  ended = λ theory w.
      made_some (over_part theory w ended) c.args.part (Ok c.terminated.result) c.in-Ok-Some.shown c.terminated.result (search rules) refl
      (c.terminated.ensures.ended theory w);
}
