-- What holds of the first refusals of data: there is at most one, and only where the data aren't as they are asked to be.
use Rattle.std.specs.Prelude.{◌≡◌}
use Rattle.lotos_ast.specs.declared.refusal.Refusal.{Refusal}
use Rattle.spec_core.specs.Order.{IsDecreasing}
use Rattle.spec_core.specs.Orthogonality.{IsOrthogonal}
use Rattle.spec_core.specs.Theories.{Theory}
use Rattle.equation_check.specs.Shape as equations
use Rattle.path_order.specs.Decrease as order

-- where this is asked of data, of which these are the first refusals
pub record HasOneAnswer (IsAsked : Type 0) (IsFirstRefusal : Refusal → Type 0) : Type 0 where
  pub one_refusal : (r s : Refusal) → IsFirstRefusal r → IsFirstRefusal s → r ≡ s
  pub not_both : (r : Refusal) → IsFirstRefusal r → IsAsked → ⊥

abbrev pub ShapeHasOneAnswer : Type 0
ShapeHasOneAnswer = (theory : Theory) → HasOneAnswer (IsOrthogonal theory) (equations.IsFirstRefusal theory)

abbrev pub DecreaseHasOneAnswer : Type 0
DecreaseHasOneAnswer = (theory : Theory) → HasOneAnswer (IsDecreasing theory) (order.IsFirstRefusal theory)
