-- How a session ends, over all trees of the behaviour that is reached. (This profile.)
use Rattle.std.specs.Prelude.{◌≡◌, Option, Some, None}
use Rattle.run_settings.specs.declared.settings.Settings.{Settings}
use Rattle.spec_core.specs.Code.{Program}
use Rattle.rule_model.specs.Actions.{Kind}
use Rattle.rule_model.specs.Derivations.{Derivation}
use Rattle.rule_model.specs.Events.{Ending, exits, deadlocked, waiting, ends_beyond, ends_spent, ends_too_large, ends_at_limit}
use Rattle.rule_model.specs.States.{State}
use Rattle.symbolic_rules.specs.Laws.{NoTree}
use Rattle.symbolic_rules.specs.Trees.{IsWindowed, IsBeyond}
use Rattle.symbolic_rules.specs.Windows.{Windows}
use Rattle.board_laws.specs.Next.{AreSessionWindows, HasEnded}
use Rattle.board_laws.specs.declared.stop_reason.StopReason.{StopReason}
use Rattle.board_laws.specs.Stopping.{ending_by}

module _ (program : Program) (settings : Settings) (s : State) where
  -- no tree is windowed, and none is beyond
  pub record IsDeadEnd : Type 0 where
    pub windows : Windows
    pub of_session : AreSessionWindows program settings windows
    pub none : (k : Kind) → NoTree program windows s.behaviour None k

  -- a tree is windowed
  pub record IsWaitingEnd : Type 0 where
    pub windows : Windows
    pub of_session : AreSessionWindows program settings windows
    pub tree : Derivation
    pub kind : Kind
    pub windowed : IsWindowed program windows s.behaviour None tree kind

  -- no tree is windowed, and one is beyond
  pub record IsBeyondEnd : Type 0 where
    pub windows : Windows
    pub of_session : AreSessionWindows program settings windows
    pub none : (d : Derivation) (k : Kind) → IsWindowed program windows s.behaviour None d k → ⊥
    pub tree : Derivation
    pub kind : Kind
    pub marked : IsBeyond program windows s.behaviour None tree kind

  -- By the trees, with the windows of the session: a deadlock, where none is windowed or beyond; waiting, where one is windowed; beyond,
  -- where none is windowed, and one is beyond.
  abbrev pub IsEndOfTrees : Ending → Type 0
  IsEndOfTrees deadlocked = IsDeadEnd
  IsEndOfTrees waiting = IsWaitingEnd
  IsEndOfTrees ends_beyond = IsBeyondEnd
  IsEndOfTrees exits = ⊥
  IsEndOfTrees (ends_spent term) = ⊥
  IsEndOfTrees (ends_too_large term) = ⊥
  IsEndOfTrees (ends_at_limit kind) = ⊥

  -- how a session ends: by the reason that has stopped it; by the termination; or by the trees
  pub data IsEndingOf (stop : Option StopReason) (ending : Ending) : Type 0 where
    ends_by_reason : (reason : StopReason) → stop ≡ Some reason → ending ≡ ending_by reason → IsEndingOf stop ending
    ends_by_exit : stop ≡ None → HasEnded s.last → ending ≡ exits → IsEndingOf stop ending
    ends_by_trees : stop ≡ None → (HasEnded s.last → ⊥) → IsEndOfTrees ending → IsEndingOf stop ending
