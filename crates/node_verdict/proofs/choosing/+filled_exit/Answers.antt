use Rattle.std.proofs.Common.{map, refl, ap, ◌∙◌, ◌∷◌}
use Rattle.spec_core.specs.Code.{exit_value_of}
use Rattle.spec_core.specs.Terms.{term_of}
use Rattle.symbolic_rules.specs.MarkedTerms.{marked_instance}
use Rattle.symbolic_rules.specs.MarkedFields.{ExitMayHave}
use Rattle.node_values.specs.Found.{IsValueOf}
use Rattle.node_values.specs.Scopes.{marks_of}
use Rattle.node_values.proofs.Finding.{of_some}
use Rattle.node_values.proofs.Splitting.{others, mapped, split_at}
use Rattle.symbolic_rules.specs.Tables.{windows_in}
use Rattle.symbolic_actions.specs.Models.{marked_field_of}
use Rattle.match_code.specs.Prepared.{program_in}
use Rattle.node_verdict.specs.Found.{IsChosen}
use Rattle.node_verdict.proofs.Filling.{exit_told, exit_chosen}
use Rattle.node_verdict.proofs.choosing.+filled_exit.Goals as goal

pub returns-in-Give-clause-some : goal.returns-in-Give-clause-some
returns-in-Give-clause-some t c =
    let theory = (program_in c.args.prepared.now).theory in
    let w = windows_in c.args.windows.now in
    let m = marks_of theory c.args.scope.now in
    let rest = map exit_value_of (others c.args.fields.now) in
    let fs = map marked_field_of c.in-Some-2.others.items in
    exit_told theory w m (map exit_value_of c.args.fields.now) (term_of c.in-Give.term) rest c.args.slots.now
    (map marked_field_of c.in_ok-in_front-in-Some-2.field-0.items) fs c.in-Some.given
    (mapped exit_value_of c.args.fields.now c.first-item.result _ c.in-len1-up.len_at_least c.first-item.is c.in-Give.is)
    (of_some (IsValueOf theory (marked_instance theory m (term_of c.in-Give.term))) c.in_ok-value_of-in-Give.field-0 c.in-Some.given
    c.in-Some.is c.in_ok-value_of-in-Give.ensures.some)
    (of_some (λ x. ExitMayHave theory w m rest c.args.slots.now (map marked_field_of x.items)) c.in_ok-filled_exit-in-Some.field-0
    c.in-Some-2.others c.in-Some-2.is c.in_ok-filled_exit-in-Some.ensures.some)
    (c.in_ok-in_front-in-Some-2.ensures ∙ ap (λ z. z ∷ fs) c.told.ensures)

pub returns-clause-some : goal.returns-clause-some
returns-clause-some t c =
    let theory = (program_in c.args.prepared.now).theory in
    let w = windows_in c.args.windows.now in
    let m = marks_of theory c.args.scope.now in
    let rest = map exit_value_of (others c.args.fields.now) in
    let slots = others c.args.slots.now in
    let fs = map marked_field_of c.in-Some-4.others.items in
    exit_chosen theory w m (map exit_value_of c.args.fields.now) c.in-Any.sort.0 rest c.args.slots.now slots c.slot-item.result
    (map marked_field_of c.in_ok-in_front-in-Some-4.field-0.items) fs c.in-Some-3.given
    (mapped exit_value_of c.args.fields.now c.first-item.result _ c.in-len1-up.len_at_least c.first-item.is c.in-Any.is)
    (split_at c.args.slots.now c.slot-item.result c.slot-item.result c.in-len1-up-slots-2.len_at_least c.slot-item.is refl)
    (of_some (IsChosen theory w c.slot-item.result c.in-Any.sort.0) c.in_ok-chosen-in-len1-up-slots-2.field-0 c.in-Some-3.given
    c.in-Some-3.is c.in_ok-chosen-in-len1-up-slots-2.ensures.some)
    (of_some (λ x. ExitMayHave theory w m rest slots (map marked_field_of x.items)) c.in_ok-filled_exit-in-Some-3.field-0
    c.in-Some-4.others c.in-Some-4.is c.in_ok-filled_exit-in-Some-3.ensures.some)
    (c.in_ok-in_front-in-Some-4.ensures ∙ ap (λ z. z ∷ fs) c.in_ok-field-in-Some-3.ensures)
