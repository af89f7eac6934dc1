use Rattle.std.proofs.Common.{ap}
use Rattle.spec_core.specs.Code.{node_of, program_of}
use Rattle.node_steps.proofs.Keeping.{value_enters}
use Rattle.node_steps.proofs.entering.valued_body.Goals as goal

pub returns-in_ok-with_value-in-Values : goal.returns-in_ok-with_value-in-Values
returns-in_ok-with_value-in-Values c =
    value_enters (program_of c.args.checked.now) c.args.values.now c.args.slot.now _ _ _ _ (node_of c.args.construct.now)
    c.in_ok-with_value-in-Values.field-0 c.in-Of.is c.in_ok-copy-in-Values.ensures.equal (ap node_of c.in-Values.is)
    c.in_ok-with_value-in-Values.ensures.site c.in_ok-with_value-in-Values.ensures.values c.in_ok-with_value-in-Values.ensures.frame
