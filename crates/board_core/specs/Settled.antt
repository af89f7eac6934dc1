-- What the board settles.
use Rattle.std.specs.Prelude.{ℕ, ◌≡◌, ◌⊎◌, ◌∷◌, [], ◌++◌, Some, None, Option, map}
use Rattle.spec_core.specs.Code.{Program}
use Rattle.spec_core.specs.Lists.{Each}
use Rattle.rule_model.specs.declared.reply.LimitKind.TheVariants.{Steps}
use Rattle.rule_model.specs.Answers.{Answer}
use Rattle.rule_model.specs.Answering.{name_of}
use Rattle.rule_model.specs.Derivations.{Derivation}
use Rattle.rule_model.specs.Events.{Event, OfferName, acted, replied}
use Rattle.rule_model.specs.Legal.{IsPossible}
use Rattle.rule_model.specs.States.{PendingOffer, State}
use Rattle.board_tree.specs.Steps.{Follows}
use Rattle.board_tree.specs.Views.{IsStep}
use Rattle.candidates.specs.Models.{job_of}
use Rattle.decision_trees.specs.Rules.{Next, takes, deadlocks, goes_on, nothing}
use Rattle.candidate_laws.specs.TreeLaws.{EntryHolds}
use Rattle.board_record.specs.Records.{MayAct}
use Rattle.candidate_verdicts.specs.Stored.{without}
use Rattle.board_laws.specs.Next.{GoesByRules, HasEnded, IsAtLimit, IsEventOf, IsLeast, IsNextEvent, IsNextOf, IsStopReply}
use Rattle.node_trees.specs.Shapes.{Shape}
use Rattle.board_offers.specs.Waiting.{waiting_in}
use Rattle.board_laws.specs.declared.stop_reason.StopReason.{StopReason}
use Rattle.board_laws.specs.declared.stop_reason.StopReason.TheVariants.{Limit}
use Rattle.board_core.specs.Awaiting.{AwaitsClients}
use Rattle.board_core.specs.Views.{BoardView, program, state, events, pieces, tree, windows, decided_at, HasOneMore, SameLog, SameNodes}
use Rattle.board_core.specs.Working.{jobs_left}

-- by the tree the behaviour may act, and each node that takes part is ready for it
pub record MayFollow (program : Program) (s : State) (t : Shape) (by : Option OfferName) (d : Derivation) : Type 0 where
  pub may : MayAct program s d by
  pub follows : Follows t d

-- an entry may be appended: its actions may be done, and there are some; an offer that is told of a deadlock is pending
abbrev pub MayBeDone : Program → State → Shape → Next PendingOffer Derivation → Type 0
MayBeDone program s t (takes p d) = MayFollow program s t (Some (name_of p)) d
MayBeDone program s t (goes_on trees) = (trees ≡ [] → ⊥) × Each (MayFollow program s t None) trees
MayBeDone program s t deadlocks = s.pending ≡ [] → ⊥
MayBeDone program s t _ = Unit {0}

-- what is known decides the entry; it comes next, it says what is so, and it may be appended
pub record IsDue (v : BoardView) (entry : Next PendingOffer Derivation) : Type 0 where
  pub decided : decided_at v ≡ Some entry
  pub next : IsNextOf (program v) v.settings (state v) entry
  pub holds : EntryHolds (program v) (windows v) (state v).behaviour (waiting_in (state v)) entry
  pub done : MayBeDone (program v) (state v) (tree v) entry

-- the session has ended, or what is known decides the entry of this event
abbrev pub IsKnownNext : BoardView → Event → Type 0
IsKnownNext v event =
    HasEnded (state v).last ⊎
    ((entry : Next PendingOffer Derivation) × (decided_at v ≡ Some entry) × IsEventOf (program v) v.settings (state v) entry event)

-- what is known decides an action, but there were as many as are allowed
pub record IsKnownAtLimit (v : BoardView) : Type 0 where
  pub at : IsAtLimit (program v) v.settings (state v)
  pub decided : decided_at v ≡ Some at.entry

-- Why the event is appended. It is what comes next by the rules, and what is known decides so; or the session has stopped, and the event
-- tells why; or an action would come next, but there were as many as are allowed, which stops the session, and the event tells so.
pub data IsSettled (old new : BoardView) (event : Event) : Type 0 where
  settled_next : old.stop ≡ None → new.stop ≡ None → IsNextEvent (program old) old.settings (state old) event → IsKnownNext old event →
      IsSettled old new event
  settled_stopped : (reason : StopReason) → old.stop ≡ Some reason → new.stop ≡ Some reason → IsStopReply (state old) reason event →
      IsSettled old new event
  settled_limit : old.stop ≡ None → new.stop ≡ Some (Limit Steps) → IsKnownAtLimit old →
      IsStopReply (state old) (Limit Steps) event → IsSettled old new event

-- the log goes on with one more entry, and nothing else changes: neither nodes, nor what is known of them, nor the jobs that are out
abbrev pub AppendsAlone : BoardView → BoardView → Type 0
AppendsAlone old new = HasOneMore old new × SameNodes old new × (new.out ≡ old.out)

-- The tree has done a step by these rules. What was known of nodes that are gone is forgotten, and no job at them is out; all else of nodes,
-- of what is known of them, and of the jobs that are out stays.
pub record HasStepped (old new : BoardView) (d : Derivation) : Type 0 where
  pub step : IsStep (program old) (tree old) old.session.tree.next d (tree new) new.session.tree.next new.session.tree.gone new.session.tree.came
  pub known : (g : ℕ) (e : Derivation) → pieces new g e ≡ without new.session.tree.gone (pieces old) g e
  pub out : map job_of new.out ≡ jobs_left new.session.tree.gone (map job_of old.out)

-- what an entry leaves of nodes, of what is known of them, and of the jobs that are out: all of it, but for what an action takes with it
abbrev pub LeavesNodes : BoardView → BoardView → Event → Type 0
LeavesNodes old new (acted action d by) = HasStepped old new d
LeavesNodes old new _ = SameNodes old new × (new.out ≡ old.out)

-- nothing that contracts see has changed
abbrev pub IsUnchanged : BoardView → BoardView → Type 0
IsUnchanged old new = SameLog old new × SameNodes old new × (new.out ≡ old.out) × (new.stop ≡ old.stop)

-- the least client with a pending offer gets this answer
abbrev pub AnswersLeast : BoardView → BoardView → Answer → Type 0
AnswersLeast old new answer =
    (p : PendingOffer) × IsLeast (state old) p × (events new ≡ events old ++ replied p.client p.number answer ∷ []) ×
    IsPossible (program old) (state old) (replied p.client p.number answer) (state new) × AppendsAlone old new

-- one more entry, which is possible, why, and what it leaves of nodes and jobs
pub record HasSettled (old new : BoardView) : Type 0 where
  pub event : Event
  pub log : events new ≡ events old ++ event ∷ []
  pub one_more : HasOneMore old new
  pub possible : IsPossible (program old) (state old) event (state new)
  pub why : IsSettled old new event
  pub leaves : LeavesNodes old new event

-- Why there is no further entry. The session has stopped, and no offer is pending; what is known doesn't decide what comes next by the
-- rules; nothing comes next, since the session waits for its clients or what is known decides so; or an action would come next, but there
-- were as many as are allowed, which stops the session, and no offer is pending.
pub data WhyQuiet (old new : BoardView) : Type 0 where
  quiet_stopped : (reason : StopReason) → old.stop ≡ Some reason → new.stop ≡ Some reason → (state old).pending ≡ [] → WhyQuiet old new
  quiet_undecided : old.stop ≡ None → new.stop ≡ None → GoesByRules (state old) → (AwaitsClients (state old) → ⊥) →
      decided_at old ≡ None → WhyQuiet old new
  quiet_nothing : old.stop ≡ None → new.stop ≡ None → GoesByRules (state old) → IsNextOf (program old) old.settings (state old) nothing →
      AwaitsClients (state old) ⊎ (decided_at old ≡ Some nothing) → WhyQuiet old new
  quiet_limit : old.stop ≡ None → new.stop ≡ Some (Limit Steps) → IsAtLimit (program old) old.settings (state old) →
      (state old).pending ≡ [] → WhyQuiet old new

-- there is no further entry
pub record IsQuiet (old new : BoardView) : Type 0 where
  pub log : SameLog old new
  pub nodes : SameNodes old new
  pub out : new.out ≡ old.out
  pub why : WhyQuiet old new
