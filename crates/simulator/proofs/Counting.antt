-- Numbers of the steps of a menu.
use Rattle.std.proofs.Common.{ℕ, zero, suc, ◌≡◌, ◌≤◌, ◌<◌, ◌⊎◌, ◌↔◌, inl, inr, refl, arith, Option, Some, Bool, true, false, IsTrue}
use Rattle.std.proofs.lemmas.Bool.{cases_order}
use Rattle.simulator.specs.Sims.{HasStep, LacksStep, not_in_menu}

pub has_there : (last : Option ℕ) (count number : ℕ) (r : Bool) → last ≡ Some count → (IsTrue r ↔ (1 ≤ number) × (number ≤ count)) → IsTrue r →
    HasStep last number
has_there last count number r e decides is =
    let both = decides.0 is in record { count = count; steps = e; from_one = both.0; within = both.1 }

outside : (count number : ℕ) → ((1 ≤ number) × (number ≤ count) → ⊥) → (number ≡ 0) ⊎ (count < number)
outside count zero none = inl refl
outside count (suc n) none = by_order (cases_order (suc n) count)
  where
    by_order : (suc n ≡ count) ⊎ ((suc n < count) ⊎ (count < suc n)) → (suc n ≡ 0) ⊎ (count < suc n)
    by_order (inl e) = absurd (none (omega arith, omega (arith, e)))
    by_order (inr (inl l)) = absurd (none (omega arith, omega (arith, l)))
    by_order (inr (inr l)) = inr l

pub lacks_there : (last : Option ℕ) (count number : ℕ) (r : Bool) → last ≡ Some count → (IsTrue r ↔ (1 ≤ number) × (number ≤ count)) →
    r ≡ false → LacksStep last number
lacks_there last count number r e decides is =
    not_in_menu count e (outside count number (λ both. let yes : r ≡ true = decides.1 both in let never : ⊥ = cc in never))
