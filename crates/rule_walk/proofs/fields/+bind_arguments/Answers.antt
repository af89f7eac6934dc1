use Rattle.std.proofs.Common.{map, get_or, refl}
use Rattle.spec_core.specs.Code.{variable_of}
use Rattle.spec_core.specs.Terms.{term_of}
use Rattle.rule_substitution.specs.Scopes.{terms_of}
use Rattle.match_code.specs.Prepared.{program_in}
use Rattle.rule_walk.proofs.Filling.{others, arguments_later, mapped, mapped_at}
use Rattle.rule_walk.proofs.fields.+bind_arguments.Goals as goal

pub returns-in_ok-more-in-len1-up-terms-2-clause-fault :
    goal.returns-in_ok-more-in-len1-up-terms-2-clause-fault
returns-in_ok-more-in-len1-up-terms-2-clause-fault t c =
    arguments_later (program_in c.args.prepared.now).theory c.requires.executable c.args.budget (terms_of c.args.outer.now)
    (terms_of c.args.inner.now) (terms_of c.in_ok-more-in-len1-up-terms-2.more)
    (variable_of (get_or c.args.vars.now 0 (0, record { 0 = 0 }))) (map variable_of c.args.vars.now)
    (map variable_of (others c.args.vars.now)) (term_of c.term-item.result) (map term_of c.args.terms.now)
    (map term_of (others c.args.terms.now)) (term_of c.in_ok-value-in-len1-up-terms-2.value) c.bind_arguments.result
    (mapped_at variable_of c.args.vars.now (0, record { 0 = 0 }) c.in-len1-up.len_at_least)
    (mapped term_of c.args.terms.now c.term-item.result c.term-item.result c.in-len1-up-terms-2.len_at_least c.term-item.is refl)
    c.in_ok-value-in-len1-up-terms-2.ensures.value c.in_ok-more-in-len1-up-terms-2.ensures.with c.bind_arguments.ensures.fault
