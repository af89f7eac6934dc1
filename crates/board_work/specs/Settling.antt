-- Boards on which entries are appended and jobs are done, by turns. (This profile.)
use Rattle.std.specs.Prelude.{◌≡◌, ◌⊎◌, [], None, Some}
use Rattle.candidates.specs.Jobs.{NodeJob}
use Rattle.decision_trees.specs.Lazy.{first}
use Rattle.decision_trees.specs.Rules.{nothing}
use Rattle.board_core.specs.Awaiting.{AwaitsClients}
use Rattle.board_core.specs.Settled.{HasSettled}
use Rattle.board_core.specs.Views as views
use Rattle.board_core.specs.Views.{BoardView, SameLog, SameNodes, SameSession}
use Rattle.board_core.specs.Working.{IsNeeded, NoneFree}
use Rattle.board_work.specs.Handed.{HandsIn, IsUndoneOn}
use Rattle.client_laws.specs.Runs.{IsSettledAt}

-- jobs are done, if any, and then the next entry is appended
pub record HasComeNext (old new : BoardView) : Type 0 where
  pub ready : BoardView
  pub handed : HandsIn old ready
  pub session : SameSession ready new
  pub settled : HasSettled ready new

-- boards of one session, with one log and one tree, of which the same is known
pub record IsLike (old new : BoardView) : Type 0 where
  pub session : SameSession old new
  pub log : SameLog old new
  pub nodes : SameNodes old new

-- all jobs are free again, there is none that the rules need, and the session hasn't stopped by that
pub record HasNoJob (old new : BoardView) : Type 0 where
  pub freed : BoardView
  pub frees : IsLike old freed
  pub running : freed.stop ≡ old.stop
  pub out : freed.out ≡ []
  pub none : NoneFree freed
  pub stays : IsLike freed new
  pub stop : new.stop ≡ freed.stop

-- the first job that the rules needed, whoever had taken it, is done
pub record FirstIsDone (old new : BoardView) : Type 0 where
  pub job : NodeJob
  pub needed : IsNeeded old job
  pub is_first : first (views.needed_at old) ≡ Some job
  pub done : IsUndoneOn new job → ⊥

-- a session that ran has stopped
pub record HasStopped (old new : BoardView) : Type 0 where
  pub running : old.stop ≡ None
  pub stopped : new.stop ≡ None → ⊥

-- What came of jobs was handed in: the first that the rules needed is done, or a reason that is so has stopped the session.
pub record HasWorked (old new : BoardView) : Type 0 where
  pub handed : HandsIn old new
  pub work : FirstIsDone old new ⊎ HasStopped old new

-- nothing is left to be done on a board; where it hasn't stopped, and doesn't wait for its clients, what is known decides so
pub record IsSettledOn (v : BoardView) : Type 0 where
  pub at : IsSettledAt (views.program v) v.settings v.stop (views.state v)
  pub known : v.stop ≡ None → AwaitsClients (views.state v) ⊎ (views.decided_at v ≡ Some nothing)
