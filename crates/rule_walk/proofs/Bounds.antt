-- What answers say of the terms that were asked on the way to them.
use Rattle.std.proofs.Common.{ℕ, ◌≡◌, List, Result, Ok, Err, sym, subst}
use Rattle.spec_core.specs.Terms.{TermTree}
use Rattle.spec_core.specs.Theories.{Theory}
use Rattle.rewriter.specs.Answers.{IsWithin}
use Rattle.rule_walk.specs.declared.fault.FireFault.{FireFault}
use Rattle.rule_walk.specs.declared.fault.FireFault.TheVariants.{Unfit, Spent, TooLarge, Memory}
use Rattle.rule_walk.specs.Bounds.{FaultBounds, Bounds, BoundsEach}
use Rattle.rule_walk.specs.Faults.{Explains, IsBelow, IsMisfit}

module _ (theory : Theory) (budget : ℕ) where
  -- a term that is within the budget is so whatever the answer is
  pub fault_within : (f : FireFault) (x : TermTree) → IsWithin theory x budget → FaultBounds theory budget f x
  fault_within (Unfit at) x h = λ _. h
  fault_within (Spent term) x h = tt
  fault_within (TooLarge term) x h = tt
  fault_within Memory x h = tt

  pub bounds_within : {R : Type 0} (r : Result R FireFault) (x : TermTree) → IsWithin theory x budget → Bounds theory budget r x
  bounds_within (Ok y) x h = h
  bounds_within (Err f) x h = fault_within f x h

  -- the answer is this fault
  pub of_fault : {R : Type 0} (A : TermTree → Type 0) (r : Result R FireFault) (f : FireFault) → r ≡ Err f →
      ((x : TermTree) → A x → FaultBounds theory budget f x) → BoundsEach theory budget A r
  of_fault {R} A r f is h = subst (λ (q : Result R FireFault). BoundsEach theory budget A q) (sym is) h

  -- a rule that doesn't fit for a cause that isn't so
  pub no_misfit : (f : FireFault) (P : Type 0) (x : TermTree) → IsMisfit P f → (P → ⊥) → FaultBounds theory budget f x
  no_misfit (Unfit at) P x h none = absurd (none h.1)
  no_misfit (Spent term) P x h none = tt
  no_misfit (TooLarge term) P x h none = tt
  no_misfit Memory P x h none = tt

  pub unexplained : (f : FireFault) (U : List ℕ → Type 0) (A : TermTree → Type 0) (x : TermTree) → Explains theory budget U A f →
      ((path : List ℕ) → U path → ⊥) → FaultBounds theory budget f x
  unexplained (Unfit at) U A x h none = absurd (none at.items h.unfit)
  unexplained (Spent term) U A x h none = tt
  unexplained (TooLarge term) U A x h none = tt
  unexplained Memory U A x h none = tt

  -- the fault of a part, told of the whole
  pub below_bounds : (place : ℕ) (f e : FireFault) (x : TermTree) → IsBelow place f e → FaultBounds theory budget f x →
      FaultBounds theory budget e x
  below_bounds place (Unfit at) (Unfit to) x is h = h
  below_bounds place (Unfit at) (Spent term) x is h = absurd is
  below_bounds place (Unfit at) (TooLarge term) x is h = absurd is
  below_bounds place (Unfit at) Memory x is h = tt
  below_bounds place (Spent term) e x is h = subst (λ (g : FireFault). FaultBounds theory budget g x) (sym is) tt
  below_bounds place (TooLarge term) e x is h = subst (λ (g : FireFault). FaultBounds theory budget g x) (sym is) tt
  below_bounds place Memory e x is h = subst (λ (g : FireFault). FaultBounds theory budget g x) (sym is) tt
