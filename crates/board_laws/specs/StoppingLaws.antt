-- What follows from the definitions.
use Rattle.std.specs.Prelude.{ℕ, ◌≡◌, ◌<◌, Some}
use Rattle.run_settings.specs.declared.settings.Settings.{Settings}
use Rattle.spec_core.specs.Code.{Program}
use Rattle.spec_core.specs.Lists.{IsOneOf}
use Rattle.rule_model.specs.States.{State}
use Rattle.rule_model.specs.declared.reply.LimitKind.TheVariants.{Offers}
use Rattle.symbolic_rules.specs.Windows.{Windows}
use Rattle.symbolic_rules.specs.MarkedTerms.{unmarked}
use Rattle.symbolic_composites.specs.Evaluations.{Evaluation, IsExact}
use Rattle.node_values.specs.declared.stop.Stop.{Stop}
use Rattle.node_values.specs.Stops.{Stops, Never}
use Rattle.expand.specs.Expansions.{IsStop}
use Rattle.node_verdict.specs.Asking.{TreeAsks}
use Rattle.node_trees.specs.Origins.{meaning}
use Rattle.node_trees.specs.Shapes.{Held, Shape, IsNodeOf, stands_for}
use Rattle.candidate_verdicts.specs.Known.{NodePart, Pieces}
use Rattle.candidates.specs.Jobs.{to_judge}
use Rattle.candidates.specs.Laws.{IsKnownTree}
use Rattle.board_laws.specs.Needed.{jobs_needed}
use Rattle.candidate_count.specs.Counts.{offers_limit, offers_of_tree}
use Rattle.candidate_count.specs.Laws.{AreOwnPlans}
use Rattle.board_offers.specs.Waiting.{waiting_in}
use Rattle.board_laws.specs.declared.stop_reason.StopReason.{StopReason}
use Rattle.board_laws.specs.declared.stop_reason.StopReason.TheVariants.{Limit}
use Rattle.board_laws.specs.Given.{reason_of}
use Rattle.board_laws.specs.Reasons.{AsksForTree, IsReasonToStop}

-- The state is reached whose behaviour the tree stands for, what is known of the tree is so, and the plans of its nodes are those that their
-- origins' constructs make.
pub record IsKnownState (program : Program) (settings : Settings) (e : Evaluation) (w : Windows) (t : Shape) (pieces : Pieces) (s : State) :
    Type 0 where
  pub known : IsKnownTree program e settings.values w t pieces
  pub own : (f : Evaluation) → IsExact program f → AreOwnPlans program f w t
  pub reached : s.behaviour ≡ stands_for program t

module _ (program : Program) (settings : Settings) (w : Windows) (t : Shape) (pieces : Pieces) (s : State) where
  -- why a node can't be expanded is a reason to stop
  abbrev pub ExpansionsGiveReasons : Type 0
  ExpansionsGiveReasons =
      (g : ℕ) (n : Held) →
      IsNodeOf t g n →
      (stop : Stop) →
      IsStop program w (meaning program n.source) settings.budget stop →
      (reason : StopReason) →
      reason_of stop ≡ Some reason →
      IsReasonToStop program settings s reason

  -- why it can't be found what a node shows is one, where the rules need it
  abbrev pub VerdictsGiveReasons : Type 0
  VerdictsGiveReasons =
      (part : NodePart) (n : Held) →
      IsOneOf (to_judge part) (jobs_needed program.theory w t pieces (waiting_in s)) →
      IsNodeOf t part.generation n →
      (stop : Stop) →
      Stops program.theory settings.budget (TreeAsks program w unmarked (meaning program n.source) part.rules) Never stop →
      (reason : StopReason) →
      reason_of stop ≡ Some reason →
      IsReasonToStop program settings s reason

  -- where they need it, a query of theirs may ask for a tree
  abbrev pub VerdictsAreOfTrees : Type 0
  VerdictsAreOfTrees =
      (part : NodePart) → IsOneOf (to_judge part) (jobs_needed program.theory w t pieces (waiting_in s)) → AsksForTree program settings s

  -- and so is that of the tree there are more possible agreements than are looked at
  abbrev pub OffersGiveReasons : Type 0
  OffersGiveReasons = offers_limit < offers_of_tree program w t → IsReasonToStop program settings s (Limit Offers)

  pub record GiveReasons : Type 0 where
    pub expansions : ExpansionsGiveReasons
    pub verdicts : VerdictsGiveReasons
    pub asked : VerdictsAreOfTrees
    pub offers : OffersGiveReasons

-- why a job has no answer that a session needs is a reason to stop in its state
abbrev pub JobsGiveReasons : Type 0
JobsGiveReasons =
    (program : Program) (settings : Settings) (e : Evaluation) (w : Windows) (t : Shape) (pieces : Pieces) (s : State) →
    IsKnownState program settings e w t pieces s →
    GiveReasons program settings w t pieces s
