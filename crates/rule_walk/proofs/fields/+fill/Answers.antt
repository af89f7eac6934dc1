use Rattle.std.proofs.Common.{rules, map, refl}
use Rattle.spec_core.specs.Code.{action_field_of}
use Rattle.spec_core.specs.Terms.{term_of}
use Rattle.rule_substitution.specs.Scopes.{terms_of}
use Rattle.match_code.specs.Prepared.{program_in}
use Rattle.rule_walk.specs.Asking.{FieldsAsk}
use Rattle.rule_walk.proofs.Bounds.{of_fault}
use Rattle.rule_walk.proofs.Faults.{handed_on}
use Rattle.rule_walk.proofs.Filling.{others, fields_later, fields_unchosen, fields_unbounded, mapped, split_at}
use Rattle.rule_walk.proofs.fields.+fill.Goals as goal

pub returns-in_err-others-in-len1-up-slots-2-clause-fault :
    goal.returns-in_err-others-in-len1-up-slots-2-clause-fault
returns-in_err-others-in-len1-up-slots-2-clause-fault t c =
    handed_on c.from_residual-in_err-others-in-len1-up-slots-2.result _ c.in_err-others-in-len1-up-slots-2.field-0.0 (search rules)
    (fields_later (program_in c.args.prepared.now).theory c.requires.executable c.args.budget (terms_of c.args.outer.now)
    (terms_of c.args.inner.now) (terms_of c.in_ok-more-in-len1-up-slots-2.more) (record { number = c.in-Take.x; sort = c.in-Take.sort.0 })
    (map action_field_of c.args.fields.now) (map action_field_of (others c.args.fields.now)) c.in_ok-found-in-len1-up-slots-2.found.ops
    c.args.slots.now (others c.args.slots.now) (term_of c.in_ok-found-in-len1-up-slots-2.found.term)
    c.in_err-others-in-len1-up-slots-2.field-0.0
    (mapped action_field_of c.args.fields.now c.first-item.result _ c.in-len1-up.len_at_least c.first-item.is c.in-Take.is)
    (split_at c.args.slots.now c.slot-item.result _ c.in-len1-up-slots-2.len_at_least c.slot-item.is
    c.in_ok-found-in-len1-up-slots-2.ensures.here) c.in_ok-found-in-len1-up-slots-2.ensures.spelled
    c.in_ok-more-in-len1-up-slots-2.ensures.with c.in_err-others-in-len1-up-slots-2.ensures.fault)

pub returns-in_err-found-in-len1-up-slots-2-clause-fault : goal.returns-in_err-found-in-len1-up-slots-2-clause-fault
returns-in_err-found-in-len1-up-slots-2-clause-fault t c =
    let f = c.in_err-found-in-len1-up-slots-2.field-0.0 in
    handed_on c.from_residual-in_err-found-in-len1-up-slots-2.result _ f (search rules)
    (fields_unchosen (program_in c.args.prepared.now).theory c.requires.executable c.args.budget (terms_of c.args.outer.now)
    (terms_of c.args.inner.now) (record { number = c.in-Take.x; sort = c.in-Take.sort.0 }) (map action_field_of c.args.fields.now)
    (map action_field_of (others c.args.fields.now)) c.slot-item.result c.args.slots.now (others c.args.slots.now) f
    (mapped action_field_of c.args.fields.now c.first-item.result _ c.in-len1-up.len_at_least c.first-item.is c.in-Take.is)
    (split_at c.args.slots.now c.slot-item.result c.slot-item.result c.in-len1-up-slots-2.len_at_least c.slot-item.is refl)
    c.in_err-found-in-len1-up-slots-2.ensures.fault)

pub returns-in_err-found-in-len1-up-slots-2-clause-within : goal.returns-in_err-found-in-len1-up-slots-2-clause-within
returns-in_err-found-in-len1-up-slots-2-clause-within t c =
    let f = c.in_err-found-in-len1-up-slots-2.field-0.0 in
    of_fault (program_in c.args.prepared.now).theory c.args.budget
    (FieldsAsk (program_in c.args.prepared.now).theory (terms_of c.args.outer.now) (map action_field_of c.args.fields.now) c.args.slots.now)
    c.from_residual-in_err-found-in-len1-up-slots-2.result f (search rules)
    (fields_unbounded (program_in c.args.prepared.now).theory c.requires.executable c.args.budget (terms_of c.args.outer.now)
    (record { number = c.in-Take.x; sort = c.in-Take.sort.0 }) (map action_field_of c.args.fields.now)
    (map action_field_of (others c.args.fields.now)) c.slot-item.result c.args.slots.now (others c.args.slots.now) f
    (mapped action_field_of c.args.fields.now c.first-item.result _ c.in-len1-up.len_at_least c.first-item.is c.in-Take.is)
    (split_at c.args.slots.now c.slot-item.result c.slot-item.result c.in-len1-up-slots-2.len_at_least c.slot-item.is refl)
    c.in_err-found-in-len1-up-slots-2.ensures.fault c.in_err-found-in-len1-up-slots-2.ensures.within)
