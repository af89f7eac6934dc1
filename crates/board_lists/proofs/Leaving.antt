-- What stays while trees are looked for.
use Rattle.std.proofs.Common.{◌≡◌, ◌∙◌, inl, inr, refl, sym, ap, subst, None, Some}
use Rattle.run_settings.specs.declared.settings.Settings.{Settings}
use Rattle.spec_core.specs.Code.{Program, program_of}
use Rattle.rule_model.specs.declared.reply.LimitKind.TheVariants.{Steps}
use Rattle.rule_model.specs.States.{State}
use Rattle.candidates.specs.Jobs.{NodeJob}
use Rattle.node_trees.specs.Origins.{Source}
use Rattle.board_laws.specs.declared.stop_reason.StopReason.{StopReason}
use Rattle.board_laws.specs.declared.stop_reason.StopReason.TheVariants.{Limit}
use Rattle.board_laws.specs.Reasons.{IsReasonToStop}
use Rattle.board_core.specs.declared.job.Post.{Post}
use Rattle.board_core.specs.declared.job.Post.TheVariants.{Posted, Stale}
use Rattle.board_core.specs.Views.{BoardView, program, state, windows, SameLog, SameSession}
use Rattle.board_core.specs.Working.{first_reason}
use Rattle.board_work.specs.declared.outcome.Outcome.{Outcome}
use Rattle.board_work.specs.Outcomes.{ComesOf}
use Rattle.board_work.proofs.Taking.{first_is}
use Rattle.board_lists.specs.Leaving.{IsNotStoppedBySteps, OnlyLooks}

module _ (old new : BoardView) (session : SameSession old new) (log : SameLog old new) where
  pub reason_stays : (reason : StopReason) → IsReasonToStop (program old) old.settings (state old) reason →
      IsReasonToStop (program new) new.settings (state new) reason
  reason_stays reason h =
      subst (λ (p : Program). IsReasonToStop p new.settings (state new) reason) (ap program_of (sym session.0.0.0))
      (subst (λ (k : Settings). IsReasonToStop (program old) k (state new) reason) (sym session.0.1)
      (subst (λ (s : State). IsReasonToStop (program old) old.settings s reason) (sym log.1) h))

  -- a reason that stops the session stops it rightly
  pub failed : (reason : StopReason) (post : Post) → old.stop ≡ None → IsReasonToStop (program old) old.settings (state old) reason →
      (post ≡ Posted → new.stop ≡ first_reason old.stop reason) → (post ≡ Stale → new.stop ≡ old.stop) → OnlyLooks old new
  failed reason Posted running so posted stale = record {
    session = session;
    log = log;
    stop =
        inr (reason, first_is old new reason running (posted refl), reason_stays reason so);
  }
  failed reason Stale running so posted stale = record { session = session; log = log; stop = inl (stale refl) }

  pub kept : new.stop ≡ old.stop → OnlyLooks old new
  kept e = record { session = session; log = log; stop = inl e }

-- what comes of a job comes of it by whatever it is equal to
pub answered : (v : BoardView) (o : Source) (job : NodeJob) (x y : Outcome) → x ≡ y →
    ComesOf (program v) (windows v) v.settings.budget o job x → ComesOf (program v) (windows v) v.settings.budget o job y
answered v o job x y is h = subst (ComesOf (program v) (windows v) v.settings.budget o job) is h

-- no limit of steps stops a session that runs on
pub runs_on : (v : BoardView) → v.stop ≡ None → IsNotStoppedBySteps v
runs_on v none e = let never : ⊥ = cc in never

-- nor one that is stopped for another reason
pub stopped_otherwise : (old new : BoardView) (reason : StopReason) (post : Post) → old.stop ≡ None → (reason ≡ Limit Steps → ⊥) →
    (post ≡ Posted → new.stop ≡ first_reason old.stop reason) → (post ≡ Stale → new.stop ≡ old.stop) → IsNotStoppedBySteps new
stopped_otherwise old new reason Posted running other posted stale e =
    let is : new.stop ≡ Some reason = first_is old new reason running (posted refl) in
    let same : reason ≡ Limit Steps = cc in other same
stopped_otherwise old new reason Stale running other posted stale e = runs_on new (stale refl ∙ running) e
