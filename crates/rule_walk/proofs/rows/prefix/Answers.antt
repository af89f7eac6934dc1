use Rattle.std.proofs.Common.{rules, map, refl}
use Rattle.spec_core.specs.Code.{action_field_of, guard_of}
use Rattle.rewriter.specs.Answers.{IsWithin}
use Rattle.rule_model.specs.Behaviours.{behaviour_of}
use Rattle.rule_model.specs.Derivations.{pre}
use Rattle.rule_substitution.specs.Scopes.{terms_of}
use Rattle.match_code.specs.Prepared.{program_in}
use Rattle.rule_walk.specs.Asking.{Asks}
use Rattle.rule_walk.specs.Bounds.{FaultBounds}
use Rattle.rule_walk.proofs.Bounds.{fault_within, of_fault}
use Rattle.rule_walk.proofs.Faults.{handed_on}
use Rattle.rule_walk.proofs.Misfits.{pre_guard}
use Rattle.rule_walk.proofs.PartBounds.{asks_nothing}
use Rattle.rule_walk.proofs.RuleBounds.{action_asked, fields_fail}
use Rattle.rule_walk.proofs.rows.prefix.Goals as goal

pub returns-in_err-ask_guard-in-Some-clause-fault : goal.returns-in_err-ask_guard-in-Some-clause-fault
returns-in_err-ask_guard-in-Some-clause-fault c =
    handed_on c.from_residual-in_err-ask_guard-in-Some.result _ c.in_err-ask_guard-in-Some.field-0.0 (search rules)
    (pre_guard (program_in c.args.prepared.now) c.requires.ready.executable c.args.budget (terms_of c.args.scope.now)
    (behaviour_of c.args.from.now) c.in_err-ask_guard-in-Some.field-0.0 c.in-Some.gate.0 (map action_field_of c.in-Some.fields.now)
    (guard_of c.in-Some.guard.now) (behaviour_of c.in-Some.rest.now) c.args.slots.now c.in_ok-filled-in-Some.filled.values.items
    (terms_of c.in_ok-filled-in-Some.filled.scope) (search rules) c.in_ok-filled-in-Some.ensures.filled
    c.in_err-ask_guard-in-Some.ensures.fault)

pub returns-in-None-clause-within : goal.returns-in-None-clause-within
returns-in-None-clause-within c =
    asks_nothing (program_in c.args.prepared.now) (FaultBounds (program_in c.args.prepared.now).theory c.args.budget c.unfit.result)
    (terms_of c.args.scope.now) (behaviour_of c.args.from.now) (pre c.args.slots.now) (pre c.args.slots.now) refl c.in-None.ensures.none

pub returns-in_err-filled-in-Some-clause-within : goal.returns-in_err-filled-in-Some-clause-within
returns-in_err-filled-in-Some-clause-within c =
    let f = c.in_err-filled-in-Some.field-0.0 in
    of_fault (program_in c.args.prepared.now).theory c.args.budget
    (Asks (program_in c.args.prepared.now) (terms_of c.args.scope.now) (behaviour_of c.args.from.now) (pre c.args.slots.now))
    c.from_residual.result f (search rules)
    (fields_fail (program_in c.args.prepared.now) c.requires.ready.executable c.args.budget (terms_of c.args.scope.now)
    (behaviour_of c.args.from.now) f c.in-Some.gate.0 (map action_field_of c.in-Some.fields.now) (guard_of c.in-Some.guard.now)
    (behaviour_of c.in-Some.rest.now) c.args.slots.now (search rules) c.in_err-filled-in-Some.ensures.fault
    c.in_err-filled-in-Some.ensures.within)

pub returns-in_err-ask_guard-in-Some-clause-within : goal.returns-in_err-ask_guard-in-Some-clause-within
returns-in_err-ask_guard-in-Some-clause-within c =
    let f = c.in_err-ask_guard-in-Some.field-0.0 in
    of_fault (program_in c.args.prepared.now).theory c.args.budget
    (Asks (program_in c.args.prepared.now) (terms_of c.args.scope.now) (behaviour_of c.args.from.now) (pre c.args.slots.now))
    c.from_residual-in_err-ask_guard-in-Some.result f (search rules)
    (action_asked (program_in c.args.prepared.now) c.requires.ready.executable
    (FaultBounds (program_in c.args.prepared.now).theory c.args.budget f) (terms_of c.args.scope.now) (behaviour_of c.args.from.now)
    c.in-Some.gate.0 (map action_field_of c.in-Some.fields.now) (guard_of c.in-Some.guard.now) (behaviour_of c.in-Some.rest.now)
    c.args.slots.now c.in_ok-filled-in-Some.filled.values.items (terms_of c.in_ok-filled-in-Some.filled.scope) (search rules)
    c.in_ok-filled-in-Some.ensures.filled
    (λ x h. fault_within (program_in c.args.prepared.now).theory c.args.budget f x (c.in_ok-filled-in-Some.ensures.within x h))
    c.in_err-ask_guard-in-Some.ensures.within)

pub returns-in_ok-rest-in-Some-clause-within : goal.returns-in_ok-rest-in-Some-clause-within
returns-in_ok-rest-in-Some-clause-within c =
    action_asked (program_in c.args.prepared.now) c.requires.ready.executable
    (λ x. IsWithin (program_in c.args.prepared.now).theory x c.args.budget) (terms_of c.args.scope.now) (behaviour_of c.args.from.now)
    c.in-Some.gate.0 (map action_field_of c.in-Some.fields.now) (guard_of c.in-Some.guard.now) (behaviour_of c.in-Some.rest.now)
    c.args.slots.now c.in_ok-filled-in-Some.filled.values.items (terms_of c.in_ok-filled-in-Some.filled.scope) (search rules)
    c.in_ok-filled-in-Some.ensures.filled c.in_ok-filled-in-Some.ensures.within c.in_ok-ask_guard-in-Some.ensures.within
