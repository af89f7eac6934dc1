use Rattle.std.proofs.Common.{map, refl}
use Rattle.spec_core.specs.Code.{binding_of}
use Rattle.symbolic_rules.specs.MarkedTerms.{MarkedAssignment, marked_instance}
use Rattle.symbolic_rules.specs.MarkedFields.{BindingsMayHave}
use Rattle.match_code.specs.Prepared.{program_in}
use Rattle.node_values.specs.Found.{IsValueOf}
use Rattle.node_values.specs.Scopes.{marks_of}
use Rattle.node_values.proofs.Fielding.{bound_by, none_bound}
use Rattle.node_values.proofs.Finding.{of_some}
use Rattle.node_values.proofs.Splitting.{others, mapped, some_ok_on, none_ok_on}
use Rattle.node_values.proofs.fields.+bind.Goals as goal

pub returns-in_ok-more-in-Some-clause-some : goal.returns-in_ok-more-in-Some-clause-some
returns-in_ok-more-in-Some-clause-some t c =
    let theory = (program_in c.args.prepared.now).theory in
    let m = marks_of theory c.args.outer.now in
    let all = map binding_of c.args.bindings.now in
    let rest = map binding_of (others c.args.bindings.now) in
    let b = binding_of c.first-item.result in
    let is = mapped binding_of c.args.bindings.now c.first-item.result c.first-item.result c.in-len1-up.len_at_least c.first-item.is refl in
    let v = of_some (IsValueOf theory (marked_instance theory m b.term)) c.in_ok-value_of-in-len1-up.field-0 c.in-Some.given c.in-Some.is
    c.in_ok-value_of-in-len1-up.ensures.some in
    some_ok_on c.bind.result
    (λ s. BindingsMayHave theory m (marks_of theory c.in_ok-more-in-Some.more.items) rest (marks_of theory s.items))
    (λ s. BindingsMayHave theory m (marks_of theory c.args.inner.items) all (marks_of theory s.items))
    (λ s. bound_by theory m all b rest c.in-Some.given c.args.inner.items c.in_ok-more-in-Some.more.items (marks_of theory s.items) is v
    c.in_ok-more-in-Some.ensures.with) c.bind.ensures.some

pub returns-in_ok-more-in-Some-clause-none : goal.returns-in_ok-more-in-Some-clause-none
returns-in_ok-more-in-Some-clause-none t c =
    let theory = (program_in c.args.prepared.now).theory in
    let m = marks_of theory c.args.outer.now in
    let all = map binding_of c.args.bindings.now in
    let rest = map binding_of (others c.args.bindings.now) in
    let b = binding_of c.first-item.result in
    let is = mapped binding_of c.args.bindings.now c.first-item.result c.first-item.result c.in-len1-up.len_at_least c.first-item.is refl in
    let v = of_some (IsValueOf theory (marked_instance theory m b.term)) c.in_ok-value_of-in-len1-up.field-0 c.in-Some.given c.in-Some.is
    c.in_ok-value_of-in-len1-up.ensures.some in
    none_ok_on c.bind.result
    ((r : MarkedAssignment) → BindingsMayHave theory m (marks_of theory c.in_ok-more-in-Some.more.items) rest r → ⊥)
    ((r : MarkedAssignment) → BindingsMayHave theory m (marks_of theory c.args.inner.items) all r → ⊥)
    (none_bound theory m c.requires.executable all b rest c.in-Some.given c.args.inner.items c.in_ok-more-in-Some.more.items is v
    c.in_ok-more-in-Some.ensures.with) c.bind.ensures.none
