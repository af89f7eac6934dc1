-- What a search among the trees of a board's nodes comes to, as far as what is known decides it. (This profile.)
use Rattle.std.specs.Prelude.{ℕ, ◌≡◌, ◌≤◌, ◌⊎◌, ◌++◌, ◌∷◌, [], List, length, map, Some, Option, Bool}
use Rattle.run_settings.specs.declared.settings.Settings.{Settings}
use Rattle.spec_core.specs.Code.{Program}
use Rattle.spec_core.specs.Lists.{Each, IsOneOf}
use Rattle.rule_model.specs.declared.offer.Offer.{Offer}
use Rattle.rule_model.specs.declared.rules.Rules.{Rules}
use Rattle.rule_model.specs.Derivations.{Derivation, derivation_of}
use Rattle.rule_model.specs.States.{State}
use Rattle.symbolic_rules.specs.Windows.{Windows}
use Rattle.decision_trees.specs.Gaps.{OrGap, element, gap, all_known}
use Rattle.decision_trees.specs.Rules.{Query, any, any_beyond}
use Rattle.candidate_laws.specs.Asked.{TreeQuery}
use Rattle.candidate_search.specs.Searches.{for_offer}
use Rattle.candidate_composites.specs.Known.{placed_plans}
use Rattle.candidate_verdicts.specs.Known.{missing_parts}
use Rattle.candidates.specs.Jobs.{NodeJob, to_expand, to_judge}
use Rattle.candidates.specs.Listed.{trees_sought, verdict_for}
use Rattle.candidates.specs.Models.{job_of}
use Rattle.board_laws.specs.declared.stop_reason.StopReason.{StopReason}
use Rattle.board_laws.specs.Reasons.{IsReasonToStop}
use Rattle.node_trees.specs.Origins.{Source, meaning, source_of}
use Rattle.board_core.specs.declared.job.Job.{Job}
use Rattle.board_core.specs.Views.{BoardView, pieces, program, state, tree, windows}
use Rattle.board_core.specs.Working.{IsOfValues}
use Rattle.board_work.specs.Outcomes.{IsUnexpanded, IsUnshown}
use Rattle.board_lists.specs.declared.looking.Looked.{Looked}
use Rattle.board_lists.specs.declared.looking.Looked.TheVariants.{Trees, Missing}
use Rattle.board_lists.specs.declared.looking.Seen.{Seen}
use Rattle.board_lists.specs.declared.looking.Seen.TheVariants as seen

-- the query asks for whatever the behaviour may do
abbrev pub AsksForAll : TreeQuery → Type 0
AsksForAll any = Unit {0}
AsksForAll any_beyond = Unit {0}
AsksForAll _ = ⊥

-- this is such a query
pub record IsForAll (q : Query Offer) : Type 0 where
  pub query : TreeQuery
  pub same : for_offer query ≡ q
  pub all : AsksForAll query

-- why the job has no answer at an origin, where it has none, is a reason to stop
abbrev pub GivesReason : Program → Settings → Windows → State → Source → NodeJob → Type 0
GivesReason program settings w s o (to_expand g) =
    (reason : StopReason) → IsUnexpanded program w settings.budget (meaning program o) reason → IsReasonToStop program settings s reason
GivesReason program settings w s o (to_judge part) =
    (reason : StopReason) → IsUnshown program w settings.budget (meaning program o) part.rules reason →
    IsReasonToStop program settings s reason

module _ (v : BoardView) where
  -- why the job has no answer, where it has none, is a reason to stop; and its tree, if it has one, chooses values
  abbrev pub IsSound : Job → Type 0
  IsSound job =
      GivesReason (program v) v.settings (windows v) (state v) (source_of job.origin) (job_of job.task) ×
      IsOfValues (program v) job

  -- The job finds out what is met: it expands the node of a gap; or it judges a part of a tree, of which nothing is known.
  abbrev pub FindsOut : OrGap Derivation → NodeJob → Type 0
  FindsOut (gap g) (to_expand h) = h ≡ g
  FindsOut (gap g) (to_judge part) = ⊥
  FindsOut (element d) (to_expand h) = ⊥
  FindsOut (element d) (to_judge part) = IsOneOf part (missing_parts (pieces v) (tree v) d)

  module _ (q : Query Offer) where
    -- the trees among which a search looks, in order, each gap in its place
    abbrev pub looked_through : List (OrGap Derivation)
    looked_through = trees_sought (program v).theory (windows v) q (placed_plans (program v).theory (tree v))

    -- whether the query asks for a tree, as far as it is known
    abbrev pub verdict_at : Derivation → Option Bool
    verdict_at d = verdict_for (program v).theory (windows v) (pieces v) (tree v) q d

    -- what is met is no tree that is asked for; it is this one; or the job finds out which
    abbrev pub Says : OrGap Derivation → Seen → Type 0
    Says x seen.Absent = all_known verdict_at (x ∷ []) ≡ Some []
    Says x (seen.Tree rules) = all_known verdict_at (x ∷ []) ≡ Some (derivation_of rules ∷ [])
    Says x (seen.Missing job) = FindsOut x (job_of job)

    -- A search has passed all trees but those that are left. Where no job is to be done before, it has found all that are asked for of
    -- those that it has passed.
    pub record HasPassed (jobs : List Job) (found : List Derivation) (left : List (OrGap Derivation)) : Type 0 where
      pub passed : List (OrGap Derivation)
      pub parts : looked_through ≡ passed ++ left
      pub known : jobs ≡ [] → all_known verdict_at passed ≡ Some found

    -- these are the first trees that are asked for: all of them, or at least so many
    pub record AreFound (most : ℕ) (found : List Derivation) : Type 0 where
      pub left : List (OrGap Derivation)
      pub passed : HasPassed [] found left
      pub enough : (left ≡ []) ⊎ (most ≤ length found)

    -- these are the first trees, or these are jobs whose answers are needed
    abbrev pub ComesOfSearch : ℕ → Looked → Type 0
    ComesOfSearch most (Trees those) = AreFound most (map derivation_of those.items)
    ComesOfSearch most (Missing jobs) = Each IsSound jobs.items

-- the trees that were found, where no job is to be done before
abbrev pub IsLooked : List Rules → List Job → Looked → Type 0
IsLooked those jobs (Trees found) = (jobs ≡ []) × (found.items ≡ those)
IsLooked those jobs (Missing missing) = (jobs ≡ [] → ⊥) × (missing.items ≡ jobs)
