-- What follows from the definitions.
use Rattle.std.specs.Prelude.{ℕ, ◌≡◌, ◌⊎◌, Option, false}
use Rattle.spec_core.specs.Executable.{IsExecutable}
use Rattle.spec_core.specs.Code.{Program}
use Rattle.rule_model.specs.declared.action.Action.{Action}
use Rattle.rule_model.specs.declared.offer.Offer.{Offer}
use Rattle.rule_model.specs.Actions.{kind_of}
use Rattle.rule_model.specs.Behaviours.{Behaviour}
use Rattle.rule_model.specs.Derivations.{Derivation}
use Rattle.rule_model.specs.Derives.{Derives}
use Rattle.symbolic_rules.specs.Windows.{Windows, AreWindows}
use Rattle.symbolic_rules.specs.Trees.{MeetsIfOffered, has_mark, IsWindowed, IsBeyond, IsMarkedAs}
use Rattle.symbolic_laws.specs.Loosened.{IsLoosened}

-- a tree by which a behaviour acts, with an action that meets the offer if there is one, has a loosened tree
abbrev pub EachStepHasItsTree : Type 0
EachStepHasItsTree =
    (program : Program) (n : ℕ) (w : Windows) →
    IsExecutable program.theory →
    AreWindows program.theory n w →
    (b : Behaviour) (d : Derivation) (a : Action) (c : Behaviour) →
    Derives program b d a c →
    (o : Option Offer) →
    MeetsIfOffered program.theory a o →
    (e : Derivation) × IsLoosened program w b o d e

-- a tree has at most one loosened tree
abbrev pub OneTreeIsLoosened : Type 0
OneTreeIsLoosened =
    (program : Program) (w : Windows) (b : Behaviour) (o : Option Offer) (d e f : Derivation) →
    IsLoosened program w b o d e →
    IsLoosened program w b o d f →
    e ≡ f

-- it is the tree with marks in the places of some of its values; where it has no mark, it is the tree itself
abbrev pub LoosenedTreesAreMarked : Type 0
LoosenedTreesAreMarked =
    (program : Program) (w : Windows) (b : Behaviour) (o : Option Offer) (d e : Derivation) →
    IsLoosened program w b o d e →
    IsMarkedAs d e × (has_mark e ≡ false → e ≡ d)

-- each step is seen by its loosened tree, which is windowed, or beyond, for an action of the same kind
abbrev pub EachStepIsSeenByItsTree : Type 0
EachStepIsSeenByItsTree =
    (program : Program) (n : ℕ) (w : Windows) →
    IsExecutable program.theory →
    AreWindows program.theory n w →
    (b : Behaviour) (d : Derivation) (a : Action) (c : Behaviour) →
    Derives program b d a c →
    (o : Option Offer) →
    MeetsIfOffered program.theory a o →
    (e : Derivation) →
    IsLoosened program w b o d e →
    IsWindowed program w b o e (kind_of a) ⊎ IsBeyond program w b o e (kind_of a)
