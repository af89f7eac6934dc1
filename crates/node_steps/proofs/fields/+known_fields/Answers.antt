use Rattle.std.proofs.Common.{map}
use Rattle.spec_core.specs.Code.{action_field_of}
use Rattle.spec_core.specs.Terms.{term_of, instance}
use Rattle.spec_core.proofs.Options.{if_none_at}
use Rattle.rule_origins.specs.Values.{assignment}
use Rattle.node_values.specs.Found.{Spelled}
use Rattle.node_values.proofs.Finding.{of_some}
use Rattle.node_values.proofs.Splitting.{others, mapped}
use Rattle.match_code.specs.Prepared.{program_in}
use Rattle.node_steps.specs.Knowing.{AreFieldsAt}
use Rattle.node_steps.proofs.Knowing.{told_first, untold_first, untold_later, chosen_first, unchosen_later}
use Rattle.node_steps.proofs.fields.+known_fields.Goals as goal

pub returns-in-None-clause-none : goal.returns-in-None-clause-none
returns-in-None-clause-none t c =
    let theory = (program_in c.args.prepared.now).theory in
    let s = assignment theory c.args.values.now in
    untold_first theory c.requires.executable s (map action_field_of c.args.fields.now) (map action_field_of (others c.args.fields.now))
    (term_of c.in-Give.term)
    (mapped action_field_of c.args.fields.now c.first-item.result _ c.in-len1-up.len_at_least c.first-item.is c.in-Give.is)
    (if_none_at c.in_ok-told-in-Give.field-0 c.in-None.is c.in_ok-told-in-Give.ensures.none)

pub returns-in-None-2-clause-none : goal.returns-in-None-2-clause-none
returns-in-None-2-clause-none t c =
    let theory = (program_in c.args.prepared.now).theory in
    let s = assignment theory c.args.values.now in
    untold_later theory c.requires.executable s (map action_field_of c.args.fields.now) (map action_field_of (others c.args.fields.now))
    (term_of c.in-Give.term)
    (mapped action_field_of c.args.fields.now c.first-item.result _ c.in-len1-up.len_at_least c.first-item.is c.in-Give.is)
    (if_none_at c.in_ok-known_fields-in-Some.field-0 c.in-None-2.is c.in_ok-known_fields-in-Some.ensures.none)

pub returns-in_ok-with_told-in-Some-2-clause-some : goal.returns-in_ok-with_told-in-Some-2-clause-some
returns-in_ok-with_told-in-Some-2-clause-some t c =
    let theory = (program_in c.args.prepared.now).theory in
    let s = assignment theory c.args.values.now in
    told_first theory c.requires.executable s c.args.from (map action_field_of c.args.fields.now)
    (map action_field_of (others c.args.fields.now)) (term_of c.in-Give.term) _ c.in-Some-2.others.known.items _
    c.in-Some-2.others.binders.items c.in-Some.value
    (mapped action_field_of c.args.fields.now c.first-item.result _ c.in-len1-up.len_at_least c.first-item.is c.in-Give.is)
    (of_some (λ v. Spelled theory (instance s (term_of c.in-Give.term)) v) c.in_ok-told-in-Give.field-0 c.in-Some.value c.in-Some.is
    c.in_ok-told-in-Give.ensures.some)
    (of_some (λ f. AreFieldsAt theory s c.args.from (map action_field_of (others c.args.fields.now)) f.known.items f.binders.items)
    c.in_ok-known_fields-in-Some.field-0 c.in-Some-2.others c.in-Some-2.is c.in_ok-known_fields-in-Some.ensures.some)
    c.in_ok-with_told-in-Some-2.ensures.known c.in_ok-with_told-in-Some-2.ensures.binders

pub returns-in-None-3-clause-none : goal.returns-in-None-3-clause-none
returns-in-None-3-clause-none t c =
    let theory = (program_in c.args.prepared.now).theory in
    let s = assignment theory c.args.values.now in
    unchosen_later theory c.requires.executable s (map action_field_of c.args.fields.now) (map action_field_of (others c.args.fields.now)) _
    (mapped action_field_of c.args.fields.now c.first-item.result _ c.in-len1-up.len_at_least c.first-item.is c.in-Take.is)
    (if_none_at c.in_ok-known_fields-in-Take.field-0 c.in-None-3.is c.in_ok-known_fields-in-Take.ensures.none)

pub returns-in_ok-with_chosen-in-Some-3-clause-some : goal.returns-in_ok-with_chosen-in-Some-3-clause-some
returns-in_ok-with_chosen-in-Some-3-clause-some t c =
    let theory = (program_in c.args.prepared.now).theory in
    let s = assignment theory c.args.values.now in
    chosen_first theory c.requires.executable s c.args.from c.in_ok-next-in-Take.next (map action_field_of c.args.fields.now)
    (map action_field_of (others c.args.fields.now)) _ _ c.in-Some-3.others.known.items _ c.in-Some-3.others.binders.items
    (mapped action_field_of c.args.fields.now c.first-item.result _ c.in-len1-up.len_at_least c.first-item.is c.in-Take.is)
    c.in_ok-next-in-Take.ensures
    (of_some (λ f. AreFieldsAt theory s c.in_ok-next-in-Take.next (map action_field_of (others c.args.fields.now)) f.known.items
    f.binders.items) c.in_ok-known_fields-in-Take.field-0 c.in-Some-3.others c.in-Some-3.is c.in_ok-known_fields-in-Take.ensures.some)
    c.in_ok-with_chosen-in-Some-3.ensures.known c.in_ok-with_chosen-in-Some-3.ensures.binders
