-- A call in its middle: an equation that matches, with premises left to be proved.
use Rattle.std.specs.Prelude.{ℕ, suc, ◌≡◌, List, [], ◌∷◌, ◌++◌}
use Rattle.spec_core.specs.Terms.{TermTree, TermTrees, instance}
use Rattle.spec_core.specs.Theories.{Premise, ConditionalEquation, Theory}
use Rattle.canonical_proof.specs.Canonical.{Writes, WritesCall, WritesPremises, OneFails}
use Rattle.canonical_proof.specs.Lines.{Line, chain}

-- Under the substitution s these premises of the equation of this number are left, before its right side r; the line is its use. Where one
-- fails, what the premises wrote is given up, and the next equations write behind the lines before the call's equations. Where all hold,
-- the use and what the right side writes come behind the lines now.
pub data Asked (theory : Theory) (s : ℕ → TermTree) (ps : List Premise) (r : TermTree) (number : ℕ) (es : List ConditionalEquation)
    (f : ℕ) (vs : TermTrees) (v : TermTree) (line : Line) (before now after : List Line) : Type 0 where
  one_fails :
      OneFails theory s ps →
      WritesCall theory (suc number) es f vs v before after →
      Asked theory s ps r number es f vs v line before now after
  all_hold : (premised reached : List Line) →
      WritesPremises theory s ps now premised →
      Writes theory (instance s r) v (premised ++ line ∷ [] ++ chain ∷ []) reached →
      after ≡ reached ++ chain ∷ [] →
      Asked theory s ps r number es f vs v line before now after
