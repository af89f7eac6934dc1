-- What comes of a job. (This profile.)
use Rattle.std.specs.Prelude.{ℕ, ◌≡◌, Some, option_map}
use Rattle.spec_core.specs.Code.{Program}
use Rattle.rule_model.specs.Behaviours.{Behaviour}
use Rattle.rule_model.specs.Derivations.{Derivation}
use Rattle.symbolic_rules.specs.Windows.{Windows}
use Rattle.symbolic_rules.specs.MarkedTerms.{unmarked}
use Rattle.node_values.specs.declared.stop.Stop.{Stop}
use Rattle.node_values.specs.Stops.{Stops, Never}
use Rattle.expand.specs.Expansions.{IsStop}
use Rattle.node_verdict.specs.Asking.{TreeAsks}
use Rattle.symbolic_actions.specs.Models.{show_of}
use Rattle.symbolic_actions.specs.Shows.{Shows}
use Rattle.node_trees.specs.Origins.{Source, meaning, source_of}
use Rattle.node_trees.specs.Rests.{expansion_of}
use Rattle.candidates.specs.Jobs.{NodeJob, to_expand, to_judge}
use Rattle.candidates.specs.Models.{job_of}
use Rattle.board_laws.specs.declared.stop_reason.StopReason.{StopReason}
use Rattle.board_laws.specs.Given.{reason_of}
use Rattle.board_core.specs.declared.job.Job.{Job}
use Rattle.board_core.specs.Boards.{IsWorkAt}
use Rattle.board_work.specs.declared.outcome.Outcome.{Outcome}
use Rattle.board_work.specs.declared.outcome.Outcome.TheVariants.{Expanded, Judged, Stopped}

module _ (program : Program) (w : Windows) (budget : ℕ) where
  -- why the behaviour has no expansion within the budget
  abbrev pub IsUnexpanded : Behaviour → StopReason → Type 0
  IsUnexpanded b reason = (stop : Stop) × IsStop program w b budget stop × (reason_of stop ≡ Some reason)

  -- why it isn't found within the budget what the behaviour shows by the tree of rules
  abbrev pub IsUnshown : Behaviour → Derivation → StopReason → Type 0
  IsUnshown b d reason =
      (stop : Stop) × Stops program.theory budget (TreeAsks program w unmarked b d) Never stop × (reason_of stop ≡ Some reason)

  -- This comes of a job at a node with this origin: the work that the origin can do; what it shows by the tree of rules; or why there is no
  -- answer within the budget. It is said of the origin alone, and not of a board.
  abbrev pub ComesOf : Source → NodeJob → Outcome → Type 0
  ComesOf o (to_expand g) (Expanded work) = IsWorkAt program w o (expansion_of work)
  ComesOf o (to_expand g) (Judged shown) = ⊥
  ComesOf o (to_expand g) (Stopped reason) = IsUnexpanded (meaning program o) reason
  ComesOf o (to_judge part) (Expanded work) = ⊥
  ComesOf o (to_judge part) (Judged shown) = Shows program w (meaning program o) part.rules (option_map show_of shown)
  ComesOf o (to_judge part) (Stopped reason) = IsUnshown (meaning program o) part.rules reason

  abbrev pub IsOutcome : Job → Outcome → Type 0
  IsOutcome job outcome = ComesOf (source_of job.origin) (job_of job.task) outcome
