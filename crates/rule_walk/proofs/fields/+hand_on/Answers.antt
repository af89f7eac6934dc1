use Rattle.std.proofs.Common.{rules, map, get_or, refl}
use Rattle.spec_core.specs.Code.{variable_of, program_of}
use Rattle.spec_core.specs.Terms.{term_of}
use Rattle.rule_substitution.specs.Scopes.{terms_of}
use Rattle.rule_walk.proofs.Filling.{others, handed_later, mapped_at, split_at}
use Rattle.rule_walk.proofs.fields.+hand_on.Goals as goal

pub returns-in_ok-more-in-Some-clause-misfit : goal.returns-in_ok-more-in-Some-clause-misfit
returns-in_ok-more-in-Some-clause-misfit t c =
    handed_later (program_of c.args.checked.now).theory c.requires.executable (terms_of c.args.inner.now)
    (terms_of c.in_ok-more-in-Some.more) (variable_of (get_or c.args.vars.now 0 (0, record { 0 = 0 }))) (map variable_of c.args.vars.now)
    (map variable_of (others c.args.vars.now)) c.value-item.result c.args.values.now (others c.args.values.now) (term_of c.in-Some.term)
    c.hand_on.result (mapped_at variable_of c.args.vars.now (0, record { 0 = 0 }) c.in-len1-up.len_at_least)
    (split_at c.args.values.now c.value-item.result c.value-item.result c.in-len1-up-values-2.len_at_least c.value-item.is refl)
    (search rules) c.in_ok-more-in-Some.ensures.with c.hand_on.ensures.misfit
