-- Values of terms.
use Rattle.std.specs.Prelude.{ℕ, ◌≡◌}
use Rattle.spec_core.specs.Lists.{Each}
use Rattle.spec_core.specs.Terms.{TermTree, TermTrees, variable, apply, no_terms, and_term, instance}
use Rattle.spec_core.specs.Theories.{ConditionalEquation, Theory}
use Rattle.spec_core.specs.Sorts.{FitsGround}
use Rattle.spec_core.specs.Equality.{Equal, IsGroundFor, PremisesHold}

-- the equation applies to the term: under a substitution of ground terms the term is its left side, and the sides of each of its premises
-- are provably equal
pub record Applies (theory : Theory) (e : ConditionalEquation) (t : TermTree) : Type 0 where
  pub substitution : ℕ → TermTree
  pub ground : IsGroundFor theory e substitution
  pub matches : instance substitution e.left ≡ t
  pub hold : PremisesHold theory substitution e.premises

-- a settled term: it is without variables, and no equation applies to any of its subterms
abbrev mutual
  pub IsSettled : Theory → TermTree → Type 0
  IsSettled theory (variable x) = ⊥
  IsSettled theory (apply f ts) = AreSettled theory ts × Each (λ e. Applies theory e (apply f ts) → ⊥) theory.equations

  pub AreSettled : Theory → TermTrees → Type 0
  AreSettled theory no_terms = Unit {0}
  AreSettled theory (and_term t ts) = IsSettled theory t × AreSettled theory ts

-- which terms are values: the settled terms over the signature
pub record IsValue (theory : Theory) (v : TermTree) : Type 0 where
  pub fits : FitsGround theory v
  pub settled : IsSettled theory v

-- the term has this value: its normal form
pub record HasValue (theory : Theory) (t v : TermTree) : Type 0 where
  pub is_value : IsValue theory v
  pub equal : Equal theory t v
