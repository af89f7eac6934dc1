use Rattle.std.proofs.Common.{map, refl, sym, ap, subst, ◌∙◌, ◌∷◌}
use Rattle.spec_core.specs.Code.{action_field_of}
use Rattle.spec_core.specs.Terms.{term_of}
use Rattle.spec_core.proofs.Options.{if_none_at}
use Rattle.symbolic_rules.specs.MarkedTerms.{marked_instance}
use Rattle.symbolic_rules.specs.MarkedFields.{FieldsMayHave}
use Rattle.node_values.specs.Found.{IsValueOf}
use Rattle.node_values.specs.Scopes.{marks_of}
use Rattle.node_values.proofs.Finding.{of_some}
use Rattle.node_values.proofs.Splitting.{others, mapped, split_at}
use Rattle.symbolic_rules.specs.Tables.{windows_in}
use Rattle.symbolic_actions.specs.Models.{marked_field_of}
use Rattle.match_code.specs.Prepared.{program_in}
use Rattle.node_verdict.specs.Found.{IsChosen}
use Rattle.node_verdict.proofs.Filling.{field_told, field_chosen, no_field_chosen}
use Rattle.node_verdict.proofs.choosing.+filled_fields.Goals as goal

pub returns-in_ok-put_front-in-Some-2-clause-some : goal.returns-in_ok-put_front-in-Some-2-clause-some
returns-in_ok-put_front-in-Some-2-clause-some t c =
    let theory = (program_in c.args.prepared.now).theory in
    let w = windows_in c.args.windows.now in
    let m = marks_of theory c.args.outer.now in
    let l = marks_of theory c.args.inner.items in
    let all = map action_field_of c.args.fields.now in
    let rest = map action_field_of (others c.args.fields.now) in
    let gs = map marked_field_of c.in_ok-put_front-in-Some-2.field-0.fields.items in
    let fs = map marked_field_of c.in-Some-2.others.fields.items in
    subst (λ z. FieldsMayHave theory w m l all c.args.slots.now gs (marks_of theory z)) (sym c.in_ok-put_front-in-Some-2.ensures.scope)
    (field_told theory w m all (term_of c.in-Give.term) rest c.args.slots.now gs fs c.in-Some.given l
    (marks_of theory c.in-Some-2.others.scope.items)
    (mapped action_field_of c.args.fields.now c.first-item.result _ c.in-len1-up.len_at_least c.first-item.is c.in-Give.is)
    (of_some (IsValueOf theory (marked_instance theory m (term_of c.in-Give.term))) c.in_ok-value_of-in-Give.field-0 c.in-Some.given
    c.in-Some.is c.in_ok-value_of-in-Give.ensures.some)
    (of_some (λ x. FieldsMayHave theory w m l rest c.args.slots.now (map marked_field_of x.fields.items) (marks_of theory x.scope.items))
    c.in_ok-filled_fields-in-Some.field-0 c.in-Some-2.others c.in-Some-2.is c.in_ok-filled_fields-in-Some.ensures.some)
    (c.in_ok-put_front-in-Some-2.ensures.fields ∙ ap (λ z. z ∷ fs) c.told.ensures))

pub returns-in-None-4-clause-none : goal.returns-in-None-4-clause-none
returns-in-None-4-clause-none t c =
    let theory = (program_in c.args.prepared.now).theory in
    let w = windows_in c.args.windows.now in
    let m = marks_of theory c.args.outer.now in
    no_field_chosen theory w m c.requires.ready.executable (map action_field_of c.args.fields.now)
    (record { number = c.in-Take.x; sort = c.in-Take.sort.0 }) (map action_field_of (others c.args.fields.now)) c.args.slots.now
    (others c.args.slots.now) c.slot-item.result c.in-Some-3.given c.args.inner.items c.in_ok-bound-in-Some-3.bound.items
    (mapped action_field_of c.args.fields.now c.first-item.result _ c.in-len1-up.len_at_least c.first-item.is c.in-Take.is)
    (split_at c.args.slots.now c.slot-item.result c.slot-item.result c.in-len1-up-slots-2.len_at_least c.slot-item.is refl)
    (of_some (IsChosen theory w c.slot-item.result c.in-Take.sort.0) c.in_ok-chosen-in-len1-up-slots-2.field-0 c.in-Some-3.given
    c.in-Some-3.is c.in_ok-chosen-in-len1-up-slots-2.ensures.some) c.in_ok-bound-in-Some-3.ensures.with
    (if_none_at c.in_ok-filled_fields-in-Some-3.field-0 c.in-None-4.is c.in_ok-filled_fields-in-Some-3.ensures.none)

pub returns-in_ok-put_front-in-Some-4-clause-some : goal.returns-in_ok-put_front-in-Some-4-clause-some
returns-in_ok-put_front-in-Some-4-clause-some t c =
    let theory = (program_in c.args.prepared.now).theory in
    let w = windows_in c.args.windows.now in
    let m = marks_of theory c.args.outer.now in
    let l = marks_of theory c.args.inner.items in
    let all = map action_field_of c.args.fields.now in
    let rest = map action_field_of (others c.args.fields.now) in
    let slots = others c.args.slots.now in
    let gs = map marked_field_of c.in_ok-put_front-in-Some-4.field-0.fields.items in
    let fs = map marked_field_of c.in-Some-4.others.fields.items in
    subst (λ z. FieldsMayHave theory w m l all c.args.slots.now gs (marks_of theory z)) (sym c.in_ok-put_front-in-Some-4.ensures.scope)
    (field_chosen theory w m all (record { number = c.in-Take.x; sort = c.in-Take.sort.0 }) rest c.args.slots.now slots c.slot-item.result
    gs fs c.in-Some-3.given c.args.inner.items c.in_ok-bound-in-Some-3.bound.items (marks_of theory c.in-Some-4.others.scope.items)
    (mapped action_field_of c.args.fields.now c.first-item.result _ c.in-len1-up.len_at_least c.first-item.is c.in-Take.is)
    (split_at c.args.slots.now c.slot-item.result c.slot-item.result c.in-len1-up-slots-2.len_at_least c.slot-item.is refl)
    (of_some (IsChosen theory w c.slot-item.result c.in-Take.sort.0) c.in_ok-chosen-in-len1-up-slots-2.field-0 c.in-Some-3.given
    c.in-Some-3.is c.in_ok-chosen-in-len1-up-slots-2.ensures.some) c.in_ok-bound-in-Some-3.ensures.with
    (of_some (λ x. FieldsMayHave theory w m (marks_of theory c.in_ok-bound-in-Some-3.bound.items) rest slots
    (map marked_field_of x.fields.items) (marks_of theory x.scope.items)) c.in_ok-filled_fields-in-Some-3.field-0 c.in-Some-4.others
    c.in-Some-4.is c.in_ok-filled_fields-in-Some-3.ensures.some)
    (c.in_ok-put_front-in-Some-4.ensures.fields ∙ ap (λ z. z ∷ fs) c.in_ok-field-in-Some-3.ensures))
