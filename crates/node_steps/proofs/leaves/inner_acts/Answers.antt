use Rattle.std.proofs.Common.{refl, ap}
use Rattle.spec_core.specs.Code.{node_of, program_of}
use Rattle.node_steps.proofs.Making.{inner_at}
use Rattle.node_steps.proofs.leaves.inner_acts.Goals as goal

pub returns-in_ok-rest-in-Inner : goal.returns-in_ok-rest-in-Inner
returns-in_ok-rest-in-Inner c = record {
  turns = λ from.
      inner_at (program_of c.args.checked.now) from _ c.args.values.now (node_of c.args.construct.now) _ _ (ap node_of c.in-Inner.is)
      c.new.ensures.items refl c.in_ok-rest-in-Inner.ensures.stays;
}
