use Rattle.std.proofs.Common.{map, refl}
use Rattle.spec_core.specs.Code.{binding_of}
use Rattle.spec_core.specs.Terms.{term_of}
use Rattle.rule_substitution.specs.Scopes.{terms_of}
use Rattle.match_code.specs.Prepared.{program_in}
use Rattle.rule_walk.proofs.Filling.{others, bindings_later, mapped}
use Rattle.rule_walk.proofs.fields.+bind.Goals as goal

pub returns-in_ok-more-in-len1-up-clause-fault : goal.returns-in_ok-more-in-len1-up-clause-fault
returns-in_ok-more-in-len1-up-clause-fault t c =
    bindings_later (program_in c.args.prepared.now).theory c.requires.executable c.args.budget (terms_of c.args.outer.now)
    (terms_of c.args.inner.now) (terms_of c.in_ok-more-in-len1-up.more) (binding_of c.first-item.result) (map binding_of
    c.args.bindings.now)
    (map binding_of (others c.args.bindings.now)) (term_of c.in_ok-value-in-len1-up.value) c.bind.result
    (mapped binding_of c.args.bindings.now c.first-item.result c.first-item.result c.in-len1-up.len_at_least c.first-item.is refl)
    c.in_ok-value-in-len1-up.ensures.value c.in_ok-more-in-len1-up.ensures.with c.bind.ensures.fault
