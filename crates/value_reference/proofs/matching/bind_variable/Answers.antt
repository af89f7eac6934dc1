use Rattle.std.proofs.Common.{◌∙◌}
use Rattle.std.proofs.lemmas.Result.{IfOk-weaker}
use Rattle.value_reference.proofs.matching.bind_variable.Goals as goal

pub returns-in-Some : goal.returns-in-Some
returns-in-Some c = IfOk-weaker c.copy.result _ _ (λ t h s e o. h ∙ c.in-Some.ensures.some s e) c.copy.ensures.equal
