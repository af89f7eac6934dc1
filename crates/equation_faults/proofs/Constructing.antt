-- Constructors by the set of the operations that head equations.
use Rattle.std.proofs.Common.{ℕ, List, [], ◌∷◌, Bool, inl, inr}
use Rattle.equation_sets.specs.Members.{IsIn}
use Rattle.spec_core.specs.Constructors.{IsMarked, IsConstructor}
use Rattle.spec_core.specs.Lists.{Each, OneOf}
use Rattle.spec_core.specs.Theories.{Theory, ConditionalEquation, Heads}
use Rattle.equation_faults.specs.Faults.{AreHeads}

none_of : (P : ConditionalEquation → Type 0) (es : List ConditionalEquation) → (OneOf P es → ⊥) → Each (λ e. P e → ⊥) es
none_of P [] h = tt
none_of P (e ∷ es) h = ((λ p. h (inl p)), none_of P es (λ o. h (inr o)))

some_of : (P : ConditionalEquation → Type 0) (es : List ConditionalEquation) → OneOf P es → Each (λ e. P e → ⊥) es → ⊥
some_of P [] o h = o
some_of P (e ∷ es) (inl p) h = h.0 p
some_of P (e ∷ es) (inr o) h = some_of P es o h.1

module _ (theory : Theory) (set : List Bool) (exact : AreHeads theory set) (f : ℕ) where
  pub not_in : (IsIn f set → ⊥) → IsConstructor theory f
  not_in h = inl (none_of (Heads f) theory.equations (λ o. h ((exact f).1 o)))

  pub only_marked : IsIn f set → IsConstructor theory f → IsMarked theory f
  only_marked i (inl none) = absurd (some_of (Heads f) theory.equations ((exact f).0 i) none)
  only_marked i (inr marked) = marked
