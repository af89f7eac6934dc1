use Rattle.std.proofs.Common.{rules, ◌≡◌, map, refl, ap, subst}
use Rattle.spec_core.specs.Code.{action_field_of, node_of}
use Rattle.spec_core.proofs.Options.{if_none_at}
use Rattle.rule_origins.specs.Values.{assignment}
use Rattle.node_values.proofs.Finding.{of_some}
use Rattle.match_code.specs.Prepared.{program_in}
use Rattle.node_steps.specs.Knowing.{AreFieldsAt, HaveNoFields}
use Rattle.node_steps.proofs.Making.{action_at, no_action_at}
use Rattle.node_steps.proofs.leaves.action_acts.Goals as goal

pub returns-in-None-clause-turns : goal.returns-in-None-clause-turns
returns-in-None-clause-turns c =
    let theory = (program_in c.args.prepared.now).theory in
    let s = assignment theory c.args.values.now in
    let same : c.deref.result.now ≡ c.in-Act.fields.items = search rules in
    no_action_at (program_in c.args.prepared.now) _ _ s _ _ (node_of c.args.construct.now) (ap node_of c.in-Act.is)
    (subst (λ l. HaveNoFields theory s (map action_field_of l)) same
    (if_none_at c.in_ok-known_fields-in-Act.field-0 c.in-None.is c.in_ok-known_fields-in-Act.ensures.none))

pub returns-in_ok-rest-in-Some-clause-turns : goal.returns-in_ok-rest-in-Some-clause-turns
returns-in_ok-rest-in-Some-clause-turns c =
    let theory = (program_in c.args.prepared.now).theory in
    let s = assignment theory c.args.values.now in
    let same : c.deref.result.now ≡ c.in-Act.fields.items = search rules in
    let found = c.in-Some.found in
    action_at (program_in c.args.prepared.now) c.args.from _ _ c.args.values.now _ _ (node_of c.args.construct.now) found.known.items
    found.binders.items _ (ap node_of c.in-Act.is)
    (subst (λ l. AreFieldsAt theory s c.args.from (map action_field_of l) found.known.items found.binders.items) same
    (of_some (λ f. AreFieldsAt theory s c.args.from (map action_field_of c.deref.result.now) f.known.items f.binders.items)
    c.in_ok-known_fields-in-Act.field-0 c.in-Some.found c.in-Some.is c.in_ok-known_fields-in-Act.ensures.some))
    refl c.in_ok-rest-in-Some.ensures.stays
