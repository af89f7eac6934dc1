use Rattle.std.proofs.Common.{rules, map, refl}
use Rattle.spec_core.specs.Code.{exit_value_of}
use Rattle.rule_substitution.specs.Scopes.{terms_of}
use Rattle.match_code.specs.Prepared.{program_in}
use Rattle.rule_walk.specs.Asking.{ExitAsks}
use Rattle.rule_walk.proofs.Bounds.{of_fault}
use Rattle.rule_walk.proofs.Faults.{handed_on}
use Rattle.rule_walk.proofs.Filling.{others, exit_unchosen, exit_unbounded, mapped, split_at}
use Rattle.rule_walk.proofs.fields.+fill_exit.Goals as goal

pub returns-in_err-found-in-len1-up-slots-2-clause-fault : goal.returns-in_err-found-in-len1-up-slots-2-clause-fault
returns-in_err-found-in-len1-up-slots-2-clause-fault t c =
    let f = c.in_err-found-in-len1-up-slots-2.field-0.0 in
    handed_on c.from_residual-in_err-found-in-len1-up-slots-2.result _ f (search rules)
    (exit_unchosen (program_in c.args.prepared.now).theory c.requires.executable c.args.budget (terms_of c.args.scope.now)
    c.in-Any.sort.0 (map exit_value_of c.args.fields.now) (map exit_value_of (others c.args.fields.now)) c.slot-item.result c.args.slots.now
    (others c.args.slots.now) f
    (mapped exit_value_of c.args.fields.now c.first-item.result _ c.in-len1-up.len_at_least c.first-item.is c.in-Any.is)
    (split_at c.args.slots.now c.slot-item.result c.slot-item.result c.in-len1-up-slots-2.len_at_least c.slot-item.is refl)
    c.in_err-found-in-len1-up-slots-2.ensures.fault)

pub returns-in_err-found-in-len1-up-slots-2-clause-within : goal.returns-in_err-found-in-len1-up-slots-2-clause-within
returns-in_err-found-in-len1-up-slots-2-clause-within t c =
    let f = c.in_err-found-in-len1-up-slots-2.field-0.0 in
    of_fault (program_in c.args.prepared.now).theory c.args.budget
    (ExitAsks (program_in c.args.prepared.now).theory (terms_of c.args.scope.now) (map exit_value_of c.args.fields.now) c.args.slots.now)
    c.from_residual-in_err-found-in-len1-up-slots-2.result f (search rules)
    (exit_unbounded (program_in c.args.prepared.now).theory c.requires.executable c.args.budget (terms_of c.args.scope.now)
    c.in-Any.sort.0 (map exit_value_of c.args.fields.now) (map exit_value_of (others c.args.fields.now)) c.slot-item.result c.args.slots.now
    (others c.args.slots.now) f
    (mapped exit_value_of c.args.fields.now c.first-item.result _ c.in-len1-up.len_at_least c.first-item.is c.in-Any.is)
    (split_at c.args.slots.now c.slot-item.result c.slot-item.result c.in-len1-up-slots-2.len_at_least c.slot-item.is refl)
    c.in_err-found-in-len1-up-slots-2.ensures.fault c.in_err-found-in-len1-up-slots-2.ensures.within)
