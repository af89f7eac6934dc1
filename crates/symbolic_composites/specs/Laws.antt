-- What follows from the definitions.
use Rattle.std.specs.Prelude.{ℕ, ◌≡◌, ◌↔◌, [], Option, Bool, true}
use Rattle.spec_core.specs.Lists.{IsOneOf}
use Rattle.spec_core.specs.Theories.{Theory}
use Rattle.spec_core.specs.Executable.{IsExecutable}
use Rattle.spec_core.specs.Code.{Program}
use Rattle.rule_model.specs.declared.action.Action.{Action}
use Rattle.rule_model.specs.declared.offer.Offer.{Offer}
use Rattle.rule_model.specs.Actions.{Kind}
use Rattle.rule_model.specs.Behaviours.{Behaviour}
use Rattle.rule_model.specs.Derivations.{Derivation}
use Rattle.rule_model.specs.Derives.{Derives}
use Rattle.rule_model.specs.Substitution.{Assignment, put}
use Rattle.rule_laws.specs.Closing.{IsClosing}
use Rattle.symbolic_rules.specs.Windows.{Windows, AreWindows}
use Rattle.symbolic_rules.specs.MarkedTerms.{plain, unmarked}
use Rattle.symbolic_rules.specs.Trees.{MeetsIfOffered, IsSeen, IsWindowed, IsBeyond}
use Rattle.symbolic_composites.specs.Evaluations.{Evaluation, IsExact}
use Rattle.symbolic_composites.specs.Composites.{composites}
use Rattle.symbolic_composites.specs.TreeLists.{candidates, windowed_trees, beyond_trees, Nests}

-- each seen tree is a tree of a composite with values that may be seen
abbrev pub SeenTreesAreCandidates : Type 0
SeenTreesAreCandidates =
    (program : Program) (e : Evaluation) (w : Windows) →
    IsExact program e →
    (n : ℕ) (b : Behaviour) (o : Option Offer) (d : Derivation) (k : Kind) →
    Nests n d →
    IsSeen program w b o d k →
    IsOneOf d (candidates program.theory e w n b o)

-- the test says which trees are seen
abbrev pub TestsSeen : Program → Windows → Behaviour → Option Offer → (Derivation → Bool) → Type 0
TestsSeen program w b o is_seen = (d : Derivation) → (is_seen d ≡ true) ↔ ((k : Kind) × IsSeen program w b o d k)

-- The lists hold windowed trees and beyond trees alone, and each that has at most n calls in one another.
pub record ListsHold (program : Program) (e : Evaluation) (w : Windows) (n : ℕ) (b : Behaviour) (o : Option Offer)
    (is_seen : Derivation → Bool) : Type 0 where
  pub windowed : (d : Derivation) → IsOneOf d (windowed_trees program.theory e w n b o is_seen) →
      (k : Kind) × IsWindowed program w b o d k
  pub beyond : (d : Derivation) → IsOneOf d (beyond_trees program.theory e w n b o is_seen) → (k : Kind) × IsBeyond program w b o d k
  pub each_windowed : (d : Derivation) (k : Kind) → Nests n d → IsWindowed program w b o d k →
      IsOneOf d (windowed_trees program.theory e w n b o is_seen)
  pub each_beyond : (d : Derivation) (k : Kind) → Nests n d → IsBeyond program w b o d k →
      IsOneOf d (beyond_trees program.theory e w n b o is_seen)

abbrev pub ListsHoldTheirTrees : Type 0
ListsHoldTheirTrees =
    (program : Program) (e : Evaluation) (w : Windows) →
    IsExact program e →
    (n : ℕ) (b : Behaviour) (o : Option Offer) (is_seen : Derivation → Bool) →
    TestsSeen program w b o is_seen →
    ListsHold program e w n b o is_seen

-- where both lists are empty, there is no step, that meets the offer if there is one
abbrev pub EmptyListsNoStep : Type 0
EmptyListsNoStep =
    (program : Program) (e : Evaluation) (size : ℕ) (w : Windows) →
    IsExact program e →
    IsExecutable program.theory →
    AreWindows program.theory size w →
    (n : ℕ) (b : Behaviour) (o : Option Offer) (is_seen : Derivation → Bool) →
    TestsSeen program w b o is_seen →
    ((d : Derivation) (k : Kind) → IsSeen program w b o d k → Nests n d) →
    windowed_trees program.theory e w n b o is_seen ≡ [] →
    beyond_trees program.theory e w n b o is_seen ≡ [] →
    (d : Derivation) (a : Action) (c : Behaviour) →
    Derives program b d a c →
    MeetsIfOffered program.theory a o →
    ⊥

-- the composites of a behaviour with terms put in are those of the code with these terms for its variables
abbrev pub CompositesOfOrigins : Type 0
CompositesOfOrigins =
    (theory : Theory) (e : Evaluation) (w : Windows) (n : ℕ) (s : Assignment) →
    IsClosing s →
    (b : Behaviour) →
    composites theory e w n unmarked (put s b) ≡ composites theory e w n (λ x. plain (s x)) b
