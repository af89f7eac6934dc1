-- What a checker answers.
use Rattle.std.specs.Prelude.{ℕ, ◌≡◌, List, [], ◌∷◌}
use Rattle.spec_core.specs.Terms.{TermTree, preorder}
use Rattle.equal_proof.specs.declared.fault.CheckFault.{CheckFault}
use Rattle.equal_proof.specs.declared.fault.CheckFault.TheVariants.{NotAProof, Memory}
use Rattle.equal_proof.specs.Certificates.{Sides}

-- where the fault names a step, P holds of its number
abbrev pub NamesStep : CheckFault → (ℕ → Type 0) → Type 0
NamesStep (NotAProof step) P = P step
NamesStep Memory P = Unit {0}

-- just one equation is left, with these sides in preorder
abbrev pub IsOneLeft : List Sides → List ℕ → List ℕ → Type 0
IsOneLeft stack left right = (t u : TermTree) × (stack ≡ (t, u) ∷ []) × (left ≡ preorder t) × (right ≡ preorder u)

-- none or several are
abbrev pub IsNoneLeft : List Sides → Type 0
IsNoneLeft stack = (p : Sides) → stack ≡ p ∷ [] → ⊥
