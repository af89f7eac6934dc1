-- Whether a ground term is a value.
use Rattle.std.proofs.Common.{ℕ, ◌≡◌, subst}
use Rattle.spec_core.specs.Equality.{by_reflexivity}
use Rattle.spec_core.specs.Executable.{IsExecutable}
use Rattle.spec_core.specs.Sorts.{HasSort, no_variables}
use Rattle.spec_core.specs.Terms.{TermTree}
use Rattle.spec_core.specs.Theories.{Theory}
use Rattle.spec_core.specs.Values.{IsValue}
use Rattle.data_laws.proofs.Matching.{same_term}
use Rattle.data_laws.proofs.Whole.{each_ground_term_has_one_value}
use Rattle.symbolic_composites.proofs.One.{IsKnown, known_as}

-- it is one exactly where it is its own value
pub value_known : (theory : Theory) → IsExecutable theory → (t : TermTree) (sort : ℕ) → HasSort theory no_variables t sort →
    IsKnown (IsValue theory t)
value_known theory executable t sort h =
    let one = each_ground_term_has_one_value theory executable t (sort, h) in
    known_as (one.0 ≡ t) (IsValue theory t) (λ e. subst (IsValue theory) e one.1.is_value)
    (λ v. one.2 t (record { is_value = v; equal = by_reflexivity (sort, h) })) (same_term one.0 t)
