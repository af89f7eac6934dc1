-- Laws of the inference rules.
use Rattle.std.specs.Prelude.{ℕ, ◌≡◌, ◌⊎◌, ◌↔◌, List, [], ◌∷◌}
use Rattle.spec_core.specs.Executable.{IsExecutable}
use Rattle.spec_core.specs.Code.{Program, Synchronised}
use Rattle.rule_model.specs.declared.action.Action.{Action}
use Rattle.rule_model.specs.declared.action.Action.TheVariants.{Exit}
use Rattle.rule_model.specs.Actions.{kind_of, doing, IsUnhidden}
use Rattle.rule_model.specs.Behaviours.{Behaviour, stop, choice, parallel, hide, relabel}
use Rattle.rule_model.specs.Code.{StandsAt}
use Rattle.rule_model.specs.Derivations.{Derivation, pre, chl, chr, parr, both, rel}
use Rattle.rule_model.specs.Derives.{Derives, DerivesWith, NoStep}
use Rattle.rule_model.specs.Substitution.{Assignment}
use Rattle.rule_laws.specs.Examples.{at_first, mirrored, exchanged}

-- no rule gives `stop` a step
abbrev pub StopDoesNothing : Type 0
StopDoesNothing = (program : Program) → NoStep program stop

-- a choice does what its left side does, by `chl`, or what its right side does, by `chr`, and nothing else
abbrev pub ChoiceDoesEither : Type 0
ChoiceDoesEither =
    (program : Program) (s : Assignment) (left right : Behaviour) (d : Derivation) (a : Action) (c : Behaviour) →
    DerivesWith program s (choice left right) d a c ↔
    ((e : Derivation) × (((d ≡ chl e) × DerivesWith program s left e a c) ⊎ ((d ≡ chr e) × DerivesWith program s right e a c)))

-- a parallel composition with its sides exchanged does the same, by the tree with its sides exchanged
abbrev pub ParallelIsSymmetric : Type 0
ParallelIsSymmetric =
    (program : Program) (s : Assignment) (gates : Synchronised) (left right : Behaviour) (d : Derivation) (a : Action) (c : Behaviour) →
    DerivesWith program s (parallel gates left right) d a c →
    DerivesWith program s (parallel gates right left) (mirrored d) a (exchanged c)

-- a parallel composition terminates only where both sides do, with the same values
abbrev pub TerminationIsJoint : Type 0
TerminationIsJoint =
    (program : Program) (s : Assignment) (gates : Synchronised) (left right : Behaviour) (d : Derivation) (values : List (List ℕ))
    (c : Behaviour) →
    DerivesWith program s (parallel gates left right) d (Exit values) c →
    (e f : Derivation) × (b g : Behaviour) × (d ≡ both e f) × DerivesWith program s left e (Exit values) b ×
    DerivesWith program s right f (Exit values) g

-- what a hiding does isn't at a hidden gate
abbrev pub HidingHides : Type 0
HidingHides =
    (program : Program) (s : Assignment) (gates : List ℕ) (body : Behaviour) (d : Derivation) (a : Action) (c : Behaviour) →
    DerivesWith program s (hide gates body) d a c →
    IsUnhidden gates (kind_of a)

-- Relabelling is no substitution: `g; stop |[g]| h; stop` with both gates relabelled to k does k by its right side alone; with k in the
-- places of g and h it doesn't.
abbrev pub RelabellingIsNoSubstitution : Type 0
RelabellingIsNoSubstitution =
    (program : Program) (g h k : ℕ) →
    (g ≡ h → ⊥) →
    ((c : Behaviour) ×
    Derives program (relabel (record { from = g; to = k } ∷ record { from = h; to = k } ∷ []) (at_first g h)) (rel (parr (pre [])))
    (doing k []) c) ×
    ((a : Action) (c : Behaviour) → Derives program (at_first k k) (parr (pre [])) a c → ⊥)

-- By one tree a behaviour does one action and becomes one behaviour.
abbrev pub TreesDetermineSteps : Type 0
TreesDetermineSteps =
    (program : Program) →
    IsExecutable program.theory →
    (s : Assignment) (b : Behaviour) (d : Derivation) (a x : Action) (c y : Behaviour) →
    DerivesWith program s b d a c →
    DerivesWith program s b d x y →
    (a ≡ x) × (c ≡ y)

-- one behaviour stands at a number of the code
abbrev pub CodeIsOneBehaviour : Type 0
CodeIsOneBehaviour = (program : Program) (n : ℕ) (b c : Behaviour) → StandsAt program n b → StandsAt program n c → b ≡ c
