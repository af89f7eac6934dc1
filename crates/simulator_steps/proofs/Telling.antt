-- Why a session has stopped, as a reply.
use Rattle.std.proofs.Common.{ℕ, ◌≡◌, ◌∙◌, inl, inr, refl, sym, ap, subst, Option, Some, None, option_map}
use Rattle.std.proofs.lemmas.Option.{same_Some}
use Rattle.rule_model.specs.declared.reply.Reply.{Reply}
use Rattle.rule_model.specs.Answers.{answer_of}
use Rattle.board_laws.specs.declared.stop_reason.StopReason.{StopReason}
use Rattle.board_laws.specs.Reasons.{IsReasonToStop}
use Rattle.board_laws.specs.Stopping.{answer_by}
use Rattle.board_core.specs.Views.{BoardView, program, state}
use Rattle.board_lists.specs.Leaving.{IsStoppedRightly}
use Rattle.simulator_steps.specs.Listing.{TellsReason}

-- where there is no reply, the session hasn't stopped
pub not_stopped : (at : ℕ) (o : Option Reply) (stop : Option StopReason) → option_map answer_of o ≡ option_map (answer_by at) stop → o ≡ None →
    stop ≡ None
not_stopped at o None h e = refl
not_stopped at o (Some reason) h e = let both : None ≡ Some (answer_by at reason) = ap (option_map answer_of) (sym e) ∙ h in let never : ⊥ = cc in absurd never

-- and else it is the reply of the reason
record IsReplyOf (at : ℕ) (stop : Option StopReason) (reply : Reply) : Type 0 where
  pub reason : StopReason
  pub stopped : stop ≡ Some reason
  pub answer : answer_of reply ≡ answer_by at reason

reply_of : (at : ℕ) (o : Option Reply) (stop : Option StopReason) → option_map answer_of o ≡ option_map (answer_by at) stop → (reply : Reply) →
    o ≡ Some reply → IsReplyOf at stop reply
reply_of at o None h reply e = let both : Some (answer_of reply) ≡ None = ap (option_map answer_of) (sym e) ∙ h in let never : ⊥ = cc in absurd never
reply_of at o (Some reason) h reply e = record {
  reason = reason;
  stopped = refl;
  answer =
      same_Some (answer_of reply) (answer_by at reason) (ap (option_map answer_of) (sym e) ∙ h);
}

pub told_before : (v : BoardView) (o : Option Reply) → option_map answer_of o ≡ option_map (answer_by (state v).actions) v.stop →
    (reply : Reply) → o ≡ Some reply → TellsReason v v (answer_of reply)
told_before v o h reply e =
    let t = reply_of (state v).actions o v.stop h reply e in record {
      reason = t.reason;
      stopped = t.stopped;
      answer_is = t.answer;
      why = inl t.stopped;
    }

pub told_now : (old new : BoardView) → old.stop ≡ None → IsStoppedRightly new → (o : Option Reply) →
    option_map answer_of o ≡ option_map (answer_by (state new).actions) new.stop → (reply : Reply) → o ≡ Some reply →
    TellsReason old new (answer_of reply)
told_now old new running (reason, stop, so) o h reply e =
    let t = reply_of (state new).actions o new.stop h reply e in record {
      reason = t.reason;
      stopped = t.stopped;
      answer_is = t.answer;
      why =
          inr (running, subst (IsReasonToStop (program new) new.settings (state new)) (same_Some reason t.reason (sym stop ∙ t.stopped)) so);
    }

pub never_silent : (v : BoardView) → IsStoppedRightly v → (o : Option Reply) →
    option_map answer_of o ≡ option_map (answer_by (state v).actions) v.stop → o ≡ None → ⊥
never_silent v (reason, stop, so) o h e =
    let both : None ≡ Some reason = sym (not_stopped (state v).actions o v.stop h e) ∙ stop in cc
