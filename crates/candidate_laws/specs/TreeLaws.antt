-- What follows from the definitions.
use Rattle.std.specs.Prelude.{ℕ, ◌≡◌, ◌↔◌, ◌⊎◌, List, [], Some, None, Bool, true, length}
use Rattle.spec_core.specs.Lists.{IsOneOf}
use Rattle.spec_core.specs.Code.{Program}
use Rattle.spec_core.specs.Ready.{IsReady}
use Rattle.rule_model.specs.declared.action.Action.{Action}
use Rattle.rule_model.specs.Actions.{Kind}
use Rattle.rule_model.specs.Behaviours.{Behaviour}
use Rattle.rule_model.specs.Derivations.{Derivation}
use Rattle.rule_model.specs.Derives.{Derives, NoStep}
use Rattle.rule_model.specs.States.{PendingOffer}
use Rattle.rule_model.specs.Meets.{Meets, NeverMeets, NoUnseenStep, IsUnseen}
use Rattle.symbolic_rules.specs.Windows.{Windows, AreWindows}
use Rattle.symbolic_rules.specs.Trees.{IsWindowed, IsBeyond}
use Rattle.decision_trees.specs.Rules.{Waiting, Next, takes, deadlocks, is_beyond, is_not_now, goes_on, stalls, nothing, next_of}
use Rattle.symbolic_composites.specs.Evaluations.{Evaluation, IsExact}
use Rattle.candidate_laws.specs.Asked.{TreeQuery, IsAsked, TestsAsked, IsUnseenKind}
use Rattle.candidate_laws.specs.Lists.{trees_for}

-- the answers about a specification that is ready are exact, these are its windows, and the test says which trees of the behaviour are
-- asked
pub record IsAnswered (program : Program) (e : Evaluation) (size : ℕ) (w : Windows) (b : Behaviour)
    (is_asked : TreeQuery → Derivation → Bool) : Type 0 where
  pub ready : IsReady program
  pub exact : IsExact program e
  pub windows : AreWindows program.theory size w
  pub tests : TestsAsked program w b is_asked

-- the trees of a behaviour for each query, with as many calls in one another as the code has constructs
abbrev pub lists_of : Program → Evaluation → Windows → Behaviour → (TreeQuery → Derivation → Bool) → TreeQuery → List Derivation
lists_of program e w b is_asked = trees_for program.theory e w (length program.code) b is_asked

-- some test says which trees are asked for
abbrev pub AskedCanBeTested : Type 0
AskedCanBeTested =
    (program : Program) (e : Evaluation) (w : Windows) →
    IsExact program e →
    (b : Behaviour) →
    (is_asked : TreeQuery → Derivation → Bool) × TestsAsked program w b is_asked

-- the list of a query holds the trees that it asks for, and no others
abbrev pub AskedTreesAreListed : Type 0
AskedTreesAreListed =
    (program : Program) (e : Evaluation) (size : ℕ) (w : Windows) (b : Behaviour)
    (is_asked : TreeQuery → Derivation → Bool) →
    IsAnswered program e size w b is_asked →
    (q : TreeQuery) (d : Derivation) →
    IsOneOf d (lists_of program e w b is_asked q) ↔ IsAsked program w b q d

-- What an entry that comes next by the rules of a session says of the behaviour's steps. Each offer that only asks is pending, and each
-- pending offer is among those by client.
pub record IsSoundWaiting (state : Waiting PendingOffer) : Type 0 where
  pub asks : (p : PendingOffer) → IsOneOf p state.asks → IsOneOf p state.pending
  pub by_client : (p : PendingOffer) → IsOneOf p state.pending → IsOneOf p state.by_client
  pub pending : (p : PendingOffer) → IsOneOf p state.by_client → IsOneOf p state.pending

module _ (program : Program) (w : Windows) (b : Behaviour) (state : Waiting PendingOffer) where
  -- an offer is taken by a windowed tree: it is pending, and by this tree the behaviour does an action that meets it
  pub record IsTaken (p : PendingOffer) (d : Derivation) : Type 0 where
    pub pending : IsOneOf p state.pending
    pub action : Action
    pub rest : Behaviour
    pub derives : Derives program b d action rest
    pub meets : Meets program.theory action p.offer

  -- an offer is answered beyond: the tree is a beyond tree for it, or, where no ask is pending, one for an action that is unseen; and no
  -- windowed tree is for it
  pub record IsAnsweredBeyond (p : PendingOffer) (d : Derivation) : Type 0 where
    pub pending : IsOneOf p state.pending
    pub tree : ((k : Kind) × IsBeyond program w b (Some p.offer) d k) ⊎
        ((state.asks ≡ []) × ((k : Kind) × IsBeyond program w b None d k × IsUnseenKind k))
    pub none : (f : Derivation) (k : Kind) → IsWindowed program w b (Some p.offer) f k → ⊥

  -- an ask is answered not now: it is one, and no step meets it
  pub record IsAnsweredNotNow (p : PendingOffer) : Type 0 where
    pub asks : IsOneOf p state.asks
    pub never : NeverMeets program b p.offer

  -- an unseen action is done by one of these trees: each open client waits, and by each of them the behaviour does such an action
  pub record GoesOn (trees : List Derivation) : Type 0 where
    pub waits : state.all_wait ≡ true
    pub acts : (d : Derivation) → IsOneOf d trees → (action : Action) × (rest : Behaviour) × Derives program b d action rest ×
        IsUnseen action

  -- the pending offers are stalled: each open client waits, an offer is pending, no step is unseen, and none meets a pending offer
  pub record IsStalled : Type 0 where
    pub waits : state.all_wait ≡ true
    pub some : (p : PendingOffer) × IsOneOf p state.pending
    pub unseen : NoUnseenStep program b
    pub never : (p : PendingOffer) → IsOneOf p state.pending → NeverMeets program b p.offer

  -- what the entry says
  abbrev pub EntryHolds : Next PendingOffer Derivation → Type 0
  EntryHolds (takes p d) = IsTaken p d
  EntryHolds deadlocks = NoStep program b
  EntryHolds (is_beyond p d) = IsAnsweredBeyond p d
  EntryHolds (is_not_now p) = IsAnsweredNotNow p
  EntryHolds (goes_on trees) = GoesOn trees
  EntryHolds stalls = IsStalled
  EntryHolds nothing = Unit {0}

-- the entry that comes next over the lists of trees says what is so of the steps
abbrev pub NextEntriesHold : Type 0
NextEntriesHold =
    (program : Program) (e : Evaluation) (size : ℕ) (w : Windows) (b : Behaviour)
    (is_asked : TreeQuery → Derivation → Bool) →
    IsAnswered program e size w b is_asked →
    (state : Waiting PendingOffer) →
    IsSoundWaiting state →
    EntryHolds program w b state (next_of (lists_of program e w b is_asked) state)
