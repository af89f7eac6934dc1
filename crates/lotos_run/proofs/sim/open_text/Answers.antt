use Rattle.std.proofs.Common.{subst}
use Rattle.lotos_ast.specs.Refusals.{OnRefusal}
use Rattle.lotos_front.specs.Answers.{IsFirstRefusal}
use Rattle.lotos_run.proofs.sim.open_text.Goals as goal

pub returns-in_ok-refusal_text-in-Err-Refused : goal.returns-in_ok-refusal_text-in-Err-Refused
returns-in_ok-refusal_text-in-Err-Refused c = record {
  refusal = c.in-Err-Refused.refusal;
  first = subst (λ e. OnRefusal e (IsFirstRefusal c.args.text.now)) c.in-Err-Refused.field-0-is c.in-Err-Refused.ensures.refused;
  reported = c.in_ok-refusal_text-in-Err-Refused.ensures;
}
