-- What comes of jobs is taken in.
use Rattle.std.proofs.Common.{ℕ, ◌≡◌, ◌∙◌, inl, inr, List, refl, sym, ap, subst, Option, Some, None}
use Rattle.spec_core.specs.Code.{Program}
use Rattle.rule_model.specs.Derivations.{Derivation}
use Rattle.symbolic_rules.specs.Windows.{Windows}
use Rattle.symbolic_rules.specs.MarkedTerms.{unmarked}
use Rattle.node_values.specs.Stops.{Stops, Never}
use Rattle.expand.specs.Expansions.{IsStop}
use Rattle.node_verdict.specs.Asking.{TreeAsks}
use Rattle.symbolic_actions.specs.Shows.{Show, Shows}
use Rattle.node_trees.specs.Origins.{Source, meaning}
use Rattle.node_trees.specs.Rests.{Work, expansion_of}
use Rattle.node_trees.specs.Shapes.{Above, Held, IsNodeOf, Shape, Stands}
use Rattle.candidate_verdicts.specs.Known.{NodePart}
use Rattle.candidates.specs.Jobs.{NodeJob, to_expand, to_judge}
use Rattle.board_laws.proofs.Living.{needed_jobs_live, needed_jobs_are_undone}
use Rattle.board_offers.specs.Waiting.{waiting_in}
use Rattle.board_laws.specs.declared.stop_reason.StopReason.{StopReason}
use Rattle.board_laws.specs.StoppingLaws.{GiveReasons}
use Rattle.board_laws.specs.Reasons.{IsAskedByRules, IsReasonToStop}
use Rattle.board_laws.proofs.StoppingGiven.{asked_by_rules}
use Rattle.board_core.specs.declared.job.Post.{Post}
use Rattle.board_core.specs.declared.job.Post.TheVariants.{Posted, Stale}
use Rattle.board_core.specs.Boards.{IsWorkAt}
use Rattle.board_core.specs.Views.{BoardView, pieces, program, state, tree, windows}
use Rattle.board_core.specs.Working.{IsFree, IsNeeded, first_reason}
use Rattle.board_work.specs.declared.outcome.Outcome.{Outcome}
use Rattle.board_work.specs.declared.outcome.Outcome.TheVariants.{Expanded, Judged, Stopped}
use Rattle.board_work.specs.Handed.{IsDone, IsTakenIn}
use Rattle.board_work.specs.Outcomes.{IsUnexpanded, IsUnshown}

-- the work of an origin is that of the node that stands for it
pub work_of_node : (program : Program) (w : Windows) (t : Shape) (g : ℕ) (o : Source) (work : Work) →
    ((n : Held) → IsNodeOf t g n → n.source ≡ o) → IsWorkAt program w o work →
    (n : Held) → IsNodeOf t g n → IsWorkAt program w n.source work
work_of_node program w t g o work origin h n is = subst (λ s. IsWorkAt program w s work) (sym (origin n is)) h

-- what an origin shows is what the node shows that stands for it
pub shown_of_node : (program : Program) (w : Windows) (t : Shape) (g : ℕ) (o : Source) (d : Derivation) (shown : Option Show) →
    ((n : Held) → IsNodeOf t g n → n.source ≡ o) → Shows program w (meaning program o) d shown →
    (up : List Above) (n : Held) → Stands t up n → n.generation ≡ g → Shows program w (meaning program n.source) d shown
shown_of_node program w t g o d shown origin h up n stands same =
    subst (λ s. Shows program w (meaning program s) d shown) (sym (origin n (record { up = up; stands = stands; same = same }))) h

-- what a job is to find that the rules need isn't known yet
pub needed_is_free : (v : BoardView) (job : NodeJob) → IsNeeded v job → IsFree (tree v) job
needed_is_free v (to_expand g) h =
    needed_jobs_are_undone (program v).theory (windows v) (tree v) (pieces v) (waiting_in (state v)) (to_expand g) h.among
needed_is_free v (to_judge p) h =
    needed_jobs_live (program v).theory (windows v) (tree v) (pieces v) (waiting_in (state v)) (to_judge p) h.among

-- the reason is so, and the rules have something left to ask
abbrev pub Gives : BoardView → StopReason → Type 0
Gives v reason = IsReasonToStop (program v) v.settings (state v) reason × IsAskedByRules (program v) v.settings (state v) reason

module _ (v : BoardView) (gives : GiveReasons (program v) v.settings (windows v) (tree v) (pieces v) (state v)) (o : Source) where
  -- why the node has no expansion is a reason to stop, where the rules need it
  pub unexpanded_gives : (g : ℕ) (reason : StopReason) → ((n : Held) → IsNodeOf (tree v) g n → n.source ≡ o) →
      IsUnexpanded (program v) (windows v) v.settings.budget (meaning (program v) o) reason → IsNeeded v (to_expand g) → Gives v reason
  unexpanded_gives g reason origin (stop, is, same) needed =
      let free = needed_is_free v (to_expand g) needed in (
        gives.expansions g free.node free.is stop
            (subst (λ s. IsStop (program v) (windows v) (meaning (program v) s) v.settings.budget stop) (sym (origin free.node free.is)) is) reason same,
        asked_by_rules (program v) v.settings (state v) needed.looks stop reason same,
      )

  -- and so is why it can't be found what it shows
  pub unshown_gives : (part : NodePart) (reason : StopReason) → ((n : Held) → IsNodeOf (tree v) part.generation n → n.source ≡ o) →
      IsUnshown (program v) (windows v) v.settings.budget (meaning (program v) o) part.rules reason → IsNeeded v (to_judge part) → Gives v reason
  unshown_gives part reason origin (stop, is, same) needed =
      let free = needed_is_free v (to_judge part) needed in (
        gives.verdicts part free.node needed.among free.is stop
            (subst
            (λ s. Stops (program v).theory v.settings.budget (TreeAsks (program v) (windows v) unmarked (meaning (program v) s) part.rules) Never stop)
            (sym (origin free.node free.is)) is) reason same,
        asked_by_rules (program v) v.settings (state v) needed.looks stop reason same,
      )

-- what isn't stale is kept
pub kept_where : {F B : Type 0} (post : Post) → F → (post ≡ Stale → (F → ⊥) × B) → post ≡ Posted
kept_where Posted so stale = refl
kept_where Stale so stale = absurd ((stale refl).0 so)

-- the first reason is the one that stops the session
pub first_is : (old new : BoardView) (reason : StopReason) → old.stop ≡ None → new.stop ≡ first_reason old.stop reason → new.stop ≡ Some reason
first_is old new reason running e = e ∙ ap (λ o. first_reason o reason) running

-- what is taken in of a job that the rules need is known, or the session has stopped
pub done_by : (old new : BoardView) (job : NodeJob) (outcome : Outcome) → IsNeeded old job → IsTakenIn old new job outcome → IsDone old new job
done_by old new (to_expand g) (Expanded work) needed h = inl (expansion_of work, h.expanded)
done_by old new (to_judge part) (Judged shown) needed h = inl (h.piece, h.part_is, h.known)
done_by old new (to_expand g) (Stopped reason) needed h = inr (λ none. let e = h.needed needed in let never : ⊥ = cc in never)
done_by old new (to_judge part) (Stopped reason) needed h = inr (λ none. let e = h.needed needed in let never : ⊥ = cc in never)
done_by old new (to_expand g) (Judged shown) needed h = absurd h
done_by old new (to_judge part) (Expanded work) needed h = absurd h
