use Rattle.std.proofs.Common.{rules, Ok, map, refl}
use Rattle.spec_core.specs.Numbers.{gate_number}
use Rattle.symbolic_actions.specs.Shows.{over_part, seen_in}
use Rattle.node_verdict.proofs.Filling.{made_some}
use Rattle.node_verdict.proofs.making.seen.Goals as goal

pub returns-in-Ok-Some : goal.returns-in-Ok-Some
returns-in-Ok-Some c = record {
  seen = λ theory w.
      made_some (over_part theory w (seen_in (map gate_number c.args.gates.now))) c.args.part (Ok c.seen.result) c.in-Ok-Some.shown c.seen.result (search rules) refl
      (c.seen.ensures.seen theory w);
}
