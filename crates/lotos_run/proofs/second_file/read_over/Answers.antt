use Rattle.std.proofs.Common.{subst, ap, ◌∙◌}
use Rattle.lotos_ast.specs.Refusals.{OnRefusal}
use Rattle.lotos_front.specs.Answers.{IsFirstRefusal}
use Rattle.lotos_run.specs.CheckTexts.{refusal_text}
use Rattle.lotos_run.proofs.second_file.read_over.Goals as goal

pub returns-in_ok-refusal_text-in-Err-Refused-clause-due : goal.returns-in_ok-refusal_text-in-Err-Refused-clause-due
returns-in_ok-refusal_text-in-Err-Refused-clause-due g c = record {
  refusal = c.in-Err-Refused.refusal;
  first = subst (λ e. OnRefusal e (IsFirstRefusal c.args.text.now)) c.in-Err-Refused.field-0-is c.in-Err-Refused.ensures.refused;
  reported = c.in_ok-refusal_text-in-Err-Refused.ensures ∙ ap refusal_text c.in-Err-Refused.refusal-is;
}
