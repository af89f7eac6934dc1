use Rattle.std.proofs.Common.{arith}
use Rattle.spec_core.specs.Theories.{operations_of}
use Rattle.sort_overloads.proofs.unknowns.is_known.Goals as goal

pub returns-then-variable : goal.returns-then-variable
returns-then-variable c = grind (arith, c.in_ok-operation.ensures (operations_of c.args.scope.now.signature) c.requires.index)

pub returns-else-variable : goal.returns-else-variable
returns-else-variable c = grind (arith, c.in_ok-operation.ensures (operations_of c.args.scope.now.signature) c.requires.index)
