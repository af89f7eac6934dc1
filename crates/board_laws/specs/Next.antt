-- What comes next in a session, by its rules, over the whole lists of trees of the behaviour that is reached. (This profile.)
use Rattle.std.specs.Prelude.{ℕ, ◌≡◌, ◌<◌, ◌≤◌, List, [], ◌∷◌, map, length, Option, Some, None, Bool, true}
use Rattle.std.specs.List.{slice_get}
use Rattle.run_settings.specs.declared.settings.Settings.{Settings}
use Rattle.spec_core.specs.Code.{Program}
use Rattle.spec_core.specs.Sorts.{IsDeclaredSort}
use Rattle.rule_model.specs.declared.action.Action.{Action}
use Rattle.rule_model.specs.declared.action.Action.TheVariants.{Inner, Exit, At}
use Rattle.rule_model.specs.Answers.{deadlock, beyond, not_now, ended}
use Rattle.rule_model.specs.Answering.{name_of}
use Rattle.rule_model.specs.Derivations.{Derivation}
use Rattle.rule_model.specs.Events.{Event, acted, replied, stalled}
use Rattle.rule_model.specs.States.{PendingOffer, State}
use Rattle.symbolic_rules.specs.Windows.{Windows, AreWindows}
use Rattle.symbolic_composites.specs.Evaluations.{Evaluation, IsExact}
use Rattle.decision_trees.specs.Rules.{Next, takes, deadlocks, is_beyond, is_not_now, goes_on, stalls, nothing, next_of}
use Rattle.candidate_laws.specs.Asked.{TreeQuery, TestsAsked}
use Rattle.candidate_laws.specs.TreeLaws.{lists_of}
use Rattle.board_offers.specs.Waiting.{by_client, waiting_in}
use Rattle.board_laws.specs.declared.stop_reason.StopReason.{StopReason}
use Rattle.board_laws.specs.Drawing.{drawn}
use Rattle.board_laws.specs.Stopping.{answer_by}

-- the last action was the successful termination
abbrev pub HasEnded : Option Action → Type 0
HasEnded None = ⊥
HasEnded (Some Inner) = ⊥
HasEnded (Some (Exit values)) = Unit {0}
HasEnded (Some (At gate values)) = ⊥

-- nothing is pending, or the last action wasn't the termination
abbrev pub GoesByRules : State → Type 0
GoesByRules s = HasEnded s.last → s.pending ≡ []

-- the client of this offer is the least with a pending one
abbrev pub IsLeast : State → PendingOffer → Type 0
IsLeast s p = (others : List PendingOffer) × (by_client s.pending ≡ p ∷ others)

-- the least client with a pending offer is told the reason
abbrev pub IsStopReply : State → StopReason → Event → Type 0
IsStopReply s reason event =
    (p : PendingOffer) × IsLeast s p × (event ≡ replied p.client p.number (answer_by s.actions reason))

module _ (program : Program) (settings : Settings) where
  -- the windows of a session: of each sort of the specification the first values, as many as are set; another sort has none
  pub record AreSessionWindows (w : Windows) : Type 0 where
    pub sized : AreWindows program.theory settings.values w
    pub others : (sort : ℕ) → (IsDeclaredSort program.theory sort → ⊥) → (w.values sort ≡ []) × (w.complete sort ≡ true)

  -- The entry of the first rule that applies over the lists of trees, with the windows of the session. It is the same whichever exact
  -- answers about data and code, and whichever test of the trees that are asked for, the lists are made with.
  pub record IsNextOf (s : State) (entry : Next PendingOffer Derivation) : Type 0 where
    pub windows : Windows
    pub of_session : AreSessionWindows windows
    pub next : (e : Evaluation) (is_asked : TreeQuery → Derivation → Bool) → IsExact program e →
        TestsAsked program windows s.behaviour is_asked →
        entry ≡ next_of (lists_of program e windows s.behaviour is_asked) (waiting_in s)

  -- the event of an entry; an action is one while there were fewer than are allowed
  abbrev pub IsEventOf : State → Next PendingOffer Derivation → Event → Type 0
  IsEventOf s (takes p d) event = (s.actions < settings.steps) × (a : Action) × (event ≡ acted a d (Some (name_of p)))
  IsEventOf s deadlocks event = (p : PendingOffer) × IsLeast s p × (event ≡ replied p.client p.number (deadlock s.actions))
  IsEventOf s (is_beyond p d) event = event ≡ replied p.client p.number (beyond s.actions d)
  IsEventOf s (is_not_now p) event = event ≡ replied p.client p.number (not_now s.actions)
  IsEventOf s (goes_on trees) event =
      (s.actions < settings.steps) × (d : Derivation) ×
      (slice_get trees (drawn settings.draw settings.seed s.actions (length trees)) ≡ Some d) × (a : Action) × (event ≡ acted a d None)
  IsEventOf s stalls event = event ≡ stalled (map name_of (by_client s.pending))
  IsEventOf s nothing event = ⊥

  -- What comes next in a state, where no reason has stopped the session: after the termination, that the least client with a pending offer
  -- is told so; else what the rules say.
  pub data IsNextEvent (s : State) (event : Event) : Type 0 where
    next_ended : (p : PendingOffer) → HasEnded s.last → IsLeast s p → event ≡ replied p.client p.number (ended s.actions) → IsNextEvent s event
    next_by_rules : (entry : Next PendingOffer Derivation) → GoesByRules s → IsNextOf s entry → IsEventOf s entry event → IsNextEvent s event

  -- the entry is an action
  abbrev pub IsAct : Next PendingOffer Derivation → Type 0
  IsAct (takes p d) = Unit {0}
  IsAct (goes_on trees) = Unit {0}
  IsAct _ = ⊥

  -- an action would come next, but there were as many as are allowed
  pub record IsAtLimit (s : State) : Type 0 where
    pub entry : Next PendingOffer Derivation
    pub by_rules : GoesByRules s
    pub next : IsNextOf s entry
    pub act : IsAct entry
    pub limit : settings.steps ≤ s.actions
