use Rattle.std.proofs.Common.{map, refl, get_or}
use Rattle.spec_core.specs.Code.{variable_of}
use Rattle.spec_core.specs.Terms.{term_of, instance}
use Rattle.rule_model.specs.Fields.{ArgumentsHave}
use Rattle.rule_model.specs.Substitution.{Assignment}
use Rattle.rule_origins.specs.Values.{assignment}
use Rattle.node_values.specs.Found.{Spelled}
use Rattle.node_values.proofs.Finding.{of_some}
use Rattle.node_values.proofs.Splitting.{others, mapped, mapped_at, some_ok_on, none_ok_on}
use Rattle.match_code.specs.Prepared.{program_in}
use Rattle.node_steps.proofs.Bindings.{argued_by, none_argued}
use Rattle.node_steps.proofs.telling.+bind_arguments.Goals as goal

pub returns-in_ok-more-in-Some-clause-some : goal.returns-in_ok-more-in-Some-clause-some
returns-in_ok-more-in-Some-clause-some t c =
    let theory = (program_in c.args.prepared.now).theory in
    let s = assignment theory c.args.outer.now in
    let x = get_or c.args.vars.now 0 (0, record { 0 = 0 }) in
    let u = c.term-item.result in
    let is = mapped_at variable_of c.args.vars.now (0, record { 0 = 0 }) c.in-len1-up.len_at_least in
    let has = mapped term_of c.args.terms.now u u c.in-len1-up-terms-2.len_at_least c.term-item.is refl in
    let v = of_some (λ v. Spelled theory (instance s (term_of u)) v) c.in_ok-told-in-len1-up-terms-2.field-0 c.in-Some.value
    c.in-Some.is c.in_ok-told-in-len1-up-terms-2.ensures.some in
    some_ok_on c.bind_arguments.result
    (λ r. ArgumentsHave theory s (assignment theory c.in_ok-more-in-Some.more.items) (map variable_of (others c.args.vars.now))
    (map term_of (others c.args.terms.now)) (assignment theory r.items))
    (λ r. ArgumentsHave theory s (assignment theory c.args.inner.items) (map variable_of c.args.vars.now) (map term_of c.args.terms.now)
    (assignment theory r.items))
    (λ r. argued_by theory s (assignment theory r.items) c.args.inner.items c.in_ok-more-in-Some.more.items (map variable_of c.args.vars.now)
    (variable_of x) (map variable_of (others c.args.vars.now)) (map term_of c.args.terms.now) (term_of u)
    (map term_of (others c.args.terms.now)) c.in-Some.value is has v c.in_ok-more-in-Some.ensures) c.bind_arguments.ensures.some

pub returns-in_ok-more-in-Some-clause-none : goal.returns-in_ok-more-in-Some-clause-none
returns-in_ok-more-in-Some-clause-none t c =
    let theory = (program_in c.args.prepared.now).theory in
    let s = assignment theory c.args.outer.now in
    let x = get_or c.args.vars.now 0 (0, record { 0 = 0 }) in
    let u = c.term-item.result in
    let is = mapped_at variable_of c.args.vars.now (0, record { 0 = 0 }) c.in-len1-up.len_at_least in
    let has = mapped term_of c.args.terms.now u u c.in-len1-up-terms-2.len_at_least c.term-item.is refl in
    let v = of_some (λ v. Spelled theory (instance s (term_of u)) v) c.in_ok-told-in-len1-up-terms-2.field-0 c.in-Some.value
    c.in-Some.is c.in_ok-told-in-len1-up-terms-2.ensures.some in
    none_ok_on c.bind_arguments.result
    ((r : Assignment) → ArgumentsHave theory s (assignment theory c.in_ok-more-in-Some.more.items)
    (map variable_of (others c.args.vars.now)) (map term_of (others c.args.terms.now)) r → ⊥)
    ((r : Assignment) → ArgumentsHave theory s (assignment theory c.args.inner.items) (map variable_of c.args.vars.now)
    (map term_of c.args.terms.now) r → ⊥)
    (none_argued theory c.requires.executable s c.args.inner.items c.in_ok-more-in-Some.more.items (map variable_of c.args.vars.now)
    (variable_of x) (map variable_of (others c.args.vars.now)) (map term_of c.args.terms.now) (term_of u)
    (map term_of (others c.args.terms.now)) c.in-Some.value is has v c.in_ok-more-in-Some.ensures) c.bind_arguments.ensures.none
