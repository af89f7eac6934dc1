-- What is left is no deeper than what was to be let go.
use Rattle.std.specs.Prelude.{◌≤◌}
use Rattle.lotos_ast.specs.declared.behaviour.Behaviour.{size-Behaviour}
use Rattle.lotos_ast.specs.declared.behaviour.Choice.{size-Choice}
use Rattle.lotos_ast.specs.declared.behaviour.Disable.{size-Disable}
use Rattle.lotos_ast.specs.declared.behaviour.Parallel.{size-Parallel}
use Rattle.lotos_ast.specs.declared.behaviour.Unary.{size-Unary}
use Rattle.lotos_ast.proofs.behaviour.+let_go.Given as goal

abbrev pub invariant-Behaviour::drop-loop-link : goal.invariant-Behaviour::drop-loop-link
invariant-Behaviour::drop-loop-link l = size-Behaviour l.self ≤ size-Behaviour l.initial.self

abbrev pub invariant-Choice::drop-loop-link : goal.invariant-Choice::drop-loop-link
invariant-Choice::drop-loop-link l = size-Choice l.self ≤ size-Choice l.initial.self

abbrev pub invariant-Disable::drop-loop-link : goal.invariant-Disable::drop-loop-link
invariant-Disable::drop-loop-link l = size-Disable l.self ≤ size-Disable l.initial.self

abbrev pub invariant-Parallel::drop-loop-link : goal.invariant-Parallel::drop-loop-link
invariant-Parallel::drop-loop-link l = size-Parallel l.self ≤ size-Parallel l.initial.self

abbrev pub invariant-Unary::drop-loop-self : goal.invariant-Unary::drop-loop-self
invariant-Unary::drop-loop-self l = size-Unary l.self ≤ size-Unary l.initial.self
