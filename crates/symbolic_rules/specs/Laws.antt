-- What follows from the definitions.
use Rattle.std.specs.Prelude.{ℕ, ◌≡◌, ◌⊎◌, Option, Some, None, true}
use Rattle.spec_core.specs.Terms.{TermTree}
use Rattle.spec_core.specs.Theories.{Theory}
use Rattle.spec_core.specs.Sorts.{HaveOneSort, no_variables, FitsData}
use Rattle.spec_core.specs.Equality.{Equal}
use Rattle.spec_core.specs.Executable.{IsExecutable}
use Rattle.spec_core.specs.Code.{Program}
use Rattle.rule_model.specs.declared.action.Action.{Action}
use Rattle.rule_model.specs.declared.offer.Offer.{Offer}
use Rattle.rule_model.specs.Actions.{Kind, inside, ends, at_gate, kind_of}
use Rattle.rule_model.specs.Behaviours.{Behaviour}
use Rattle.rule_model.specs.Derivations.{Derivation}
use Rattle.rule_model.specs.Derives.{Derives, NoStep}
use Rattle.rule_model.specs.Meets.{NeverMeets, NoUnseenStep}
use Rattle.symbolic_rules.specs.Windows.{Windows, AreWindows}
use Rattle.symbolic_rules.specs.Trees.{MeetsIfOffered, IsWindowed, IsBeyond, IsMarkedAs}

-- terms that are provably equal have one sort
abbrev pub EqualTermsHaveOneSort : Type 0
EqualTermsHaveOneSort =
    (theory : Theory) → FitsData theory → (a b : TermTree) → Equal theory a b → HaveOneSort theory no_variables a b

-- Each tree by which a behaviour acts, with an action that meets the offer if there is one, is windowed, or is beyond once some of its
-- values are marks, for an action of the same kind.
abbrev pub EachStepIsSeen : Type 0
EachStepIsSeen =
    (program : Program) (n : ℕ) (w : Windows) →
    IsExecutable program.theory →
    AreWindows program.theory n w →
    (b : Behaviour) (d : Derivation) (a : Action) (c : Behaviour) →
    Derives program b d a c →
    (o : Option Offer) →
    MeetsIfOffered program.theory a o →
    IsWindowed program w b o d (kind_of a) ⊎ ((e : Derivation) × IsMarkedAs d e × IsBeyond program w b o e (kind_of a))

-- by each windowed tree the behaviour acts, with an action of the kind that meets the offer if there is one
abbrev pub WindowedTreesAct : Type 0
WindowedTreesAct =
    (program : Program) (w : Windows) →
    FitsData program.theory →
    (b : Behaviour) (o : Option Offer) (d : Derivation) (k : Kind) →
    IsWindowed program w b o d k →
    (a : Action) × (c : Behaviour) × Derives program b d a c × (kind_of a ≡ k) × MeetsIfOffered program.theory a o

-- where the window of each sort is complete, no tree is beyond
abbrev pub CompleteWindowsHaveNoBeyond : Type 0
CompleteWindowsHaveNoBeyond =
    (program : Program) (w : Windows) →
    ((sort : ℕ) → w.complete sort ≡ true) →
    (b : Behaviour) (o : Option Offer) (d : Derivation) (k : Kind) →
    IsBeyond program w b o d k →
    ⊥

-- no tree is windowed and none is beyond, for an action of this kind
abbrev pub NoTree : Program → Windows → Behaviour → Option Offer → Kind → Type 0
NoTree program w b o k = (d : Derivation) → IsWindowed program w b o d k ⊎ IsBeyond program w b o d k → ⊥

-- where no tree at all is windowed or beyond, no rule gives a step
abbrev pub NoTreeNoStep : Type 0
NoTreeNoStep =
    (program : Program) (n : ℕ) (w : Windows) →
    IsExecutable program.theory →
    AreWindows program.theory n w →
    (b : Behaviour) →
    ((k : Kind) → NoTree program w b None k) →
    NoStep program b

-- where no tree for the offer is windowed or beyond, no step meets the offer
abbrev pub NoTreeForTheOfferNoneMeets : Type 0
NoTreeForTheOfferNoneMeets =
    (program : Program) (n : ℕ) (w : Windows) →
    IsExecutable program.theory →
    AreWindows program.theory n w →
    (b : Behaviour) (offer : Offer) →
    NoTree program w b (Some offer) (at_gate offer.gate.0) →
    NeverMeets program b offer

-- where no tree for the internal action or the termination is windowed or beyond, no step is unseen
abbrev pub NoUnseenTreeNoUnseenStep : Type 0
NoUnseenTreeNoUnseenStep =
    (program : Program) (n : ℕ) (w : Windows) →
    IsExecutable program.theory →
    AreWindows program.theory n w →
    (b : Behaviour) →
    NoTree program w b None inside →
    NoTree program w b None ends →
    NoUnseenStep program b
