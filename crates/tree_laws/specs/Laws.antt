-- What follows from the definitions: no list of a behaviour's trees holds a tree twice.
use Rattle.std.specs.Prelude.{ℕ, ◌≡◌, List, [], Option}
use Rattle.spec_core.specs.Lists.{NoTwo}
use Rattle.spec_core.specs.Sorts.{IsDeclaredSort}
use Rattle.spec_core.specs.Theories.{Theory}
use Rattle.rule_model.specs.declared.offer.Offer.{Offer}
use Rattle.rule_model.specs.Behaviours.{Behaviour}
use Rattle.symbolic_rules.specs.Windows.{Windows, AreWindows}
use Rattle.symbolic_composites.specs.Evaluations.{Evaluation}
use Rattle.symbolic_composites.specs.TreeLists.{candidates}

-- no two of the list are equal
abbrev pub AllDiffer : {A : Type 0} → List A → Type 0
AllDiffer xs = NoTwo (λ x y. x ≡ y) xs

-- no window holds a value twice
abbrev pub WindowsDiffer : Windows → Type 0
WindowsDiffer w = (sort : ℕ) → AllDiffer (w.values sort)

-- the windows of the declared sorts hold none twice, where other sorts have no values
abbrev pub SizedWindowsDiffer : Type 0
SizedWindowsDiffer =
    (theory : Theory) (k : ℕ) (w : Windows) →
    AreWindows theory k w →
    ((sort : ℕ) → (IsDeclaredSort theory sort → ⊥) → w.values sort ≡ []) →
    WindowsDiffer w

-- The list of all trees of a behaviour with values that may be seen, for an offer or for none, holds no tree twice, whatever the answers
-- about data and code are.
abbrev pub CandidatesDiffer : Type 0
CandidatesDiffer =
    (theory : Theory) (e : Evaluation) (w : Windows) (n : ℕ) (b : Behaviour) (o : Option Offer) →
    WindowsDiffer w →
    AllDiffer (candidates theory e w n b o)
