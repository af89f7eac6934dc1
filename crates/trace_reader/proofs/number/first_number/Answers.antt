use Rattle.std.proofs.Common.{subst, ◌∙◌}
use Rattle.trace_reader.proofs.Numbers.{NumberOf, none_found, one_found}
use Rattle.trace_reader.proofs.number.first_number.Goals as goal

pub returns-in-None-clause-finds : goal.returns-in-None-clause-finds
returns-in-None-clause-finds c n rest small stop e =
    none_found c.args.text.now c.digits_length.result c.number_of.result c.digits_length.ensures.run c.digits_length.ensures.ends
    (subst (λ l. NumberOf l c.number_of.result) c.split_at.ensures.front c.number_of.ensures) c.in-None.is n rest small stop e

pub returns-in-Some-clause-finds : goal.returns-in-Some-clause-finds
returns-in-Some-clause-finds c n rest small stop e =
    let one =
    one_found c.args.text.now c.digits_length.result c.in-Some.number c.number_of.result c.digits_length.ensures.run c.digits_length.ensures.ends
    (subst (λ l. NumberOf l c.number_of.result) c.split_at.ensures.front c.number_of.ensures) c.in-Some.is n rest small stop e in
    (one.0, c.split_at.ensures.back ∙ one.1)
