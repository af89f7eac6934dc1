use Rattle.std.proofs.Common.{◌≡◌}
use Rattle.lotos_ast.specs.FirstRefusals.{first_refusal}
use Rattle.lotos_ast.proofs.first_refusal.first_refusal.Given as goal

abbrev pub invariant-loop-refusal : goal.invariant-loop-refusal
invariant-loop-refusal l = l.first ≡ first_refusal l.yielded
