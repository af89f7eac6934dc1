use Rattle.std.proofs.Common.{◌∙◌, subst, sym}
use Rattle.std.proofs.lemmas.Bool.{true≢false}
use Rattle.rule_model.specs.Answers.{answer_of}
use Rattle.rule_model.specs.Behaviours.{behaviour_of}
use Rattle.rule_model.specs.Legal.{IsReplyAt}
use Rattle.log_check.proofs.entry.answer.Goals as goal
use Rattle.log_check.proofs.entry.answer.Goals.{else-is_pending-via-then-is_pending+else-is_at, else-is_pending-via-else-is_pending}

pub returns-in_ok-answer-clause-next : goal.returns-in_ok-answer-clause-next
returns-in_ok-answer-clause-next c =
    let b = behaviour_of c.args.state.now.behaviour in
    let at = subst (IsReplyAt (answer_of c.args.reply.now)) c.actions.ensures (c.is_at.ensures.0 c.if-is_at.true) in
    ((c.is_pending.ensures b).0 c.if-is_pending.true, at, c.in_ok-answer.ensures.answered b)

pub returns-else-is_pending-clause-next : goal.returns-else-is_pending-clause-next
returns-else-is_pending-clause-next c next h =
    let b = behaviour_of c.args.state.now.behaviour in
    elim c.else-is_pending.branch [
      | else-is_pending-via-then-is_pending+else-is_at w ↦
          let at = subst (IsReplyAt (answer_of c.args.reply.now)) (sym w.actions.ensures) h.1 in
          absurd (true≢false (sym (w.is_at.ensures.1 at) ∙ w.if-is_at.false))
      | else-is_pending-via-else-is_pending w ↦ absurd (true≢false (sym ((c.is_pending.ensures b).1 h.0) ∙ w.if-is_pending.false))
    ]
