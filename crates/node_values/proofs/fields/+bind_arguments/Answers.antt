use Rattle.std.proofs.Common.{map, refl, get_or}
use Rattle.spec_core.specs.Code.{variable_of}
use Rattle.spec_core.specs.Terms.{term_of}
use Rattle.symbolic_rules.specs.MarkedTerms.{MarkedAssignment, marked_instance}
use Rattle.symbolic_rules.specs.MarkedFields.{ArgumentsMayHave}
use Rattle.match_code.specs.Prepared.{program_in}
use Rattle.node_values.specs.Found.{IsValueOf}
use Rattle.node_values.specs.Scopes.{marks_of}
use Rattle.node_values.proofs.Fielding.{argument_by, none_argument}
use Rattle.node_values.proofs.Finding.{of_some}
use Rattle.node_values.proofs.Splitting.{others, mapped, mapped_at, some_ok_on, none_ok_on}
use Rattle.node_values.proofs.fields.+bind_arguments.Goals as goal

pub returns-in_ok-more-in-Some-clause-some : goal.returns-in_ok-more-in-Some-clause-some
returns-in_ok-more-in-Some-clause-some t c =
    let theory = (program_in c.args.prepared.now).theory in
    let m = marks_of theory c.args.outer.now in
    let x = get_or c.args.vars.now 0 (0, record { 0 = 0 }) in
    let u = c.term-item.result in
    let is = mapped_at variable_of c.args.vars.now (0, record { 0 = 0 }) c.in-len1-up.len_at_least in
    let has = mapped term_of c.args.terms.now u u c.in-len1-up-terms-2.len_at_least c.term-item.is refl in
    let v = of_some (IsValueOf theory (marked_instance theory m (term_of u))) c.in_ok-value_of-in-len1-up-terms-2.field-0 c.in-Some.given
    c.in-Some.is c.in_ok-value_of-in-len1-up-terms-2.ensures.some in
    some_ok_on c.bind_arguments.result
    (λ s. ArgumentsMayHave theory m (marks_of theory c.in_ok-more-in-Some.more.items) (map variable_of (others c.args.vars.now))
    (map term_of (others c.args.terms.now)) (marks_of theory s.items))
    (λ s. ArgumentsMayHave theory m (marks_of theory c.args.inner.items) (map variable_of c.args.vars.now) (map term_of c.args.terms.now)
    (marks_of theory s.items))
    (λ s. argument_by theory m (map variable_of c.args.vars.now) (map term_of c.args.terms.now) (variable_of x) (term_of u)
    (map variable_of (others c.args.vars.now)) (map term_of (others c.args.terms.now)) c.in-Some.given c.args.inner.items
    c.in_ok-more-in-Some.more.items (marks_of theory s.items) is has v c.in_ok-more-in-Some.ensures.with) c.bind_arguments.ensures.some

pub returns-in_ok-more-in-Some-clause-none : goal.returns-in_ok-more-in-Some-clause-none
returns-in_ok-more-in-Some-clause-none t c =
    let theory = (program_in c.args.prepared.now).theory in
    let m = marks_of theory c.args.outer.now in
    let x = get_or c.args.vars.now 0 (0, record { 0 = 0 }) in
    let u = c.term-item.result in
    let is = mapped_at variable_of c.args.vars.now (0, record { 0 = 0 }) c.in-len1-up.len_at_least in
    let has = mapped term_of c.args.terms.now u u c.in-len1-up-terms-2.len_at_least c.term-item.is refl in
    let v = of_some (IsValueOf theory (marked_instance theory m (term_of u))) c.in_ok-value_of-in-len1-up-terms-2.field-0 c.in-Some.given
    c.in-Some.is c.in_ok-value_of-in-len1-up-terms-2.ensures.some in
    none_ok_on c.bind_arguments.result
    ((r : MarkedAssignment) → ArgumentsMayHave theory m (marks_of theory c.in_ok-more-in-Some.more.items)
    (map variable_of (others c.args.vars.now)) (map term_of (others c.args.terms.now)) r → ⊥)
    ((r : MarkedAssignment) → ArgumentsMayHave theory m (marks_of theory c.args.inner.items) (map variable_of c.args.vars.now)
    (map term_of c.args.terms.now) r → ⊥)
    (none_argument theory m c.requires.executable (map variable_of c.args.vars.now) (map term_of c.args.terms.now) (variable_of x)
    (term_of u) (map variable_of (others c.args.vars.now)) (map term_of (others c.args.terms.now)) c.in-Some.given c.args.inner.items
    c.in_ok-more-in-Some.more.items is has v c.in_ok-more-in-Some.ensures.with) c.bind_arguments.ensures.none
