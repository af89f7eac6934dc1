use Rattle.std.proofs.Common.{map, refl}
use Rattle.spec_core.specs.Code.{binding_of}
use Rattle.spec_core.specs.Terms.{instance}
use Rattle.rule_model.specs.Fields.{BindingsHave}
use Rattle.rule_model.specs.Substitution.{Assignment}
use Rattle.rule_origins.specs.Values.{assignment}
use Rattle.node_values.specs.Found.{Spelled}
use Rattle.node_values.proofs.Finding.{of_some}
use Rattle.node_values.proofs.Splitting.{others, mapped, some_ok_on, none_ok_on}
use Rattle.match_code.specs.Prepared.{program_in}
use Rattle.node_steps.proofs.Bindings.{bound_by, none_bound}
use Rattle.node_steps.proofs.telling.+bind.Goals as goal

pub returns-in_ok-more-in-Some-clause-some : goal.returns-in_ok-more-in-Some-clause-some
returns-in_ok-more-in-Some-clause-some t c =
    let theory = (program_in c.args.prepared.now).theory in
    let s = assignment theory c.args.outer.now in
    let all = map binding_of c.args.bindings.now in
    let rest = map binding_of (others c.args.bindings.now) in
    let b = binding_of c.first-item.result in
    let is = mapped binding_of c.args.bindings.now c.first-item.result c.first-item.result c.in-len1-up.len_at_least c.first-item.is refl in
    let v = of_some (λ v. Spelled theory (instance s b.term) v) c.in_ok-told-in-len1-up.field-0 c.in-Some.value c.in-Some.is
    c.in_ok-told-in-len1-up.ensures.some in
    some_ok_on c.bind.result
    (λ r. BindingsHave theory s (assignment theory c.in_ok-more-in-Some.more.items) rest (assignment theory r.items))
    (λ r. BindingsHave theory s (assignment theory c.args.inner.items) all (assignment theory r.items))
    (λ r. bound_by theory s (assignment theory r.items) c.args.inner.items c.in_ok-more-in-Some.more.items all b rest c.in-Some.value is v
    c.in_ok-more-in-Some.ensures) c.bind.ensures.some

pub returns-in_ok-more-in-Some-clause-none : goal.returns-in_ok-more-in-Some-clause-none
returns-in_ok-more-in-Some-clause-none t c =
    let theory = (program_in c.args.prepared.now).theory in
    let s = assignment theory c.args.outer.now in
    let all = map binding_of c.args.bindings.now in
    let rest = map binding_of (others c.args.bindings.now) in
    let b = binding_of c.first-item.result in
    let is = mapped binding_of c.args.bindings.now c.first-item.result c.first-item.result c.in-len1-up.len_at_least c.first-item.is refl in
    let v = of_some (λ v. Spelled theory (instance s b.term) v) c.in_ok-told-in-len1-up.field-0 c.in-Some.value c.in-Some.is
    c.in_ok-told-in-len1-up.ensures.some in
    none_ok_on c.bind.result
    ((u : Assignment) → BindingsHave theory s (assignment theory c.in_ok-more-in-Some.more.items) rest u → ⊥)
    ((u : Assignment) → BindingsHave theory s (assignment theory c.args.inner.items) all u → ⊥)
    (none_bound theory c.requires.executable s c.args.inner.items c.in_ok-more-in-Some.more.items all b rest c.in-Some.value is v
    c.in_ok-more-in-Some.ensures) c.bind.ensures.none
