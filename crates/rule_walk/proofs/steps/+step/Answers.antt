use Rattle.std.proofs.Common.{rules, ◌≡◌, map, refl, sym, ap, subst}
use Rattle.spec_core.specs.Code.{program_of, synchronised_of, variable_of}
use Rattle.spec_core.specs.Numbers.{gate_number}
use Rattle.spec_core.specs.Terms.{term_of}
use Rattle.spec_core.proofs.Options.{if_none_at}
use Rattle.rule_laws.proofs.Spelling.{step_spelled}
use Rattle.rule_model.specs.declared.rules.Slot.{Slot}
use Rattle.rule_model.specs.declared.rules.Slot.TheVariants.{Of}
use Rattle.rule_model.specs.Actions.{kind_of, IsJoint}
use Rattle.rule_model.specs.Behaviours.{behaviour_of}
use Rattle.rule_model.specs.Derivations.{derivation_of, val, gate, guard, letting, both, calling}
use Rattle.rule_substitution.specs.Scopes.{terms_of}
use Rattle.match_code.specs.Prepared.{program_in}
use Rattle.rule_walk.specs.Asking.{ChoiceAsks, Asks}
use Rattle.rule_walk.specs.Bounds.{FaultBounds, Bounds}
use Rattle.rule_walk.specs.Faults.{IsMisfit}
use Rattle.rule_walk.specs.Models.{framed_in}
use Rattle.rule_walk.proofs.Bounds.{fault_within, bounds_within, below_bounds, of_fault}
use Rattle.rule_walk.proofs.Faults.{handed_on}
use Rattle.rule_walk.proofs.Frames.{no_part, part_fails, part_does, failed, answers, inner_answers, below_explains}
use Rattle.rule_walk.proofs.Misfits.{value_unchosen, call_undefined, call_arguments, not_joint, second_fault}
use Rattle.rule_walk.proofs.PartFaults.{on_rule, part_fault, part_faults}
use Rattle.rule_walk.proofs.PartBounds.{asks_nothing, part_asked}
use Rattle.rule_walk.proofs.RuleBounds.{gate_asked, undefined_asked, own_arguments, both_asked, choice_fails, premise_fails, bindings_fail}
use Rattle.rule_walk.proofs.RuleBounds.{arguments_fail, first_side_fails}
use Rattle.rule_walk.proofs.steps.+step.Goals as goal

pub by_both-returns-in_err-first-in-Some-clause-fault : goal.by_both-returns-in_err-first-in-Some-clause-fault
by_both-returns-in_err-first-in-Some-clause-fault t c =
    let d = both (derivation_of c.args.part.now) (derivation_of c.args.other.now) in
    let f = c.in_err-first-in-Some.field-0.0 in
    handed_on c.from_residual.result _ f (search rules)
    (part_fault (program_in c.args.prepared.now) c.args.budget (terms_of c.args.scope.now) (behaviour_of c.args.from.now) d d _
    (terms_of c.args.scope.now)
    (behaviour_of c.in-Some.left.now) (derivation_of c.args.part.now) f refl c.in-Some.ensures.some
    (refl, refl, refl) c.in_err-first-in-Some.ensures.fault)

pub by_both-returns-in_err-second-in-Some-clause-fault : goal.by_both-returns-in_err-second-in-Some-clause-fault
by_both-returns-in_err-second-in-Some-clause-fault t c =
    let f = c.in_err-second-in-Some.field-0.0 in
    handed_on c.from_residual-in_err-second-in-Some.result _ f (search rules)
    (second_fault (program_in c.args.prepared.now) c.requires.ready.executable c.args.budget (terms_of c.args.scope.now)
    (behaviour_of c.args.from.now) f
    (synchronised_of c.in-Some.gates.now) (behaviour_of c.in-Some.left.now) (behaviour_of c.in-Some.right.now)
    (derivation_of c.args.part.now) (derivation_of c.args.other.now) c.in_ok-first-in-Some.first.action
    (behaviour_of c.in_ok-first-in-Some.first.rest) c.in-Some.ensures.some c.in_ok-first-in-Some.ensures.derives
    c.in_err-second-in-Some.ensures.fault)

pub by_both-returns-in_ok-second-in-Some-clause-fault : goal.by_both-returns-in_ok-second-in-Some-clause-fault
by_both-returns-in_ok-second-in-Some-clause-fault t c =
    let d = both (derivation_of c.args.part.now) (derivation_of c.args.other.now) in
    on_rule (program_in c.args.prepared.now) c.args.budget (terms_of c.args.scope.now) (behaviour_of c.args.from.now) c.together.result d d
    (IsMisfit ((c.in_ok-second-in-Some.second.action ≡ c.in_ok-first-in-Some.first.action) ×
    IsJoint (synchronised_of c.in-Some.gates.now) (kind_of c.in_ok-first-in-Some.first.action) → ⊥)) refl
    (λ f.
    not_joint (program_in c.args.prepared.now) c.requires.ready.executable c.args.budget (terms_of c.args.scope.now)
    (behaviour_of c.args.from.now) f
    (synchronised_of c.in-Some.gates.now) (behaviour_of c.in-Some.left.now) (behaviour_of c.in-Some.right.now)
    (derivation_of c.args.part.now) (derivation_of c.args.other.now) c.in_ok-first-in-Some.first.action c.in_ok-second-in-Some.second.action
    (behaviour_of c.in_ok-first-in-Some.first.rest) (behaviour_of c.in_ok-second-in-Some.second.rest) c.in-Some.ensures.some
    c.in_ok-first-in-Some.ensures.derives c.in_ok-second-in-Some.ensures.derives) c.together.ensures.misfit

pub by_bindings-returns-in_ok-more-in-Some-clause-fault : goal.by_bindings-returns-in_ok-more-in-Some-clause-fault
by_bindings-returns-in_ok-more-in-Some-clause-fault t c =
    part_faults (program_in c.args.prepared.now) c.args.budget (terms_of c.args.scope.now) (behaviour_of c.args.from.now) c.step_in.result
    (letting (derivation_of c.args.part.now)) (letting (derivation_of c.args.part.now)) _
    (terms_of c.in_ok-more-in-Some.more) (behaviour_of c.in-Some.body.now) (derivation_of c.args.part.now) refl c.in-Some.ensures.some
    (terms_of c.in_ok-more-in-Some.more, c.in_ok-more-in-Some.ensures.bound, (refl, refl, refl)) c.step_in.ensures.fault

pub by_premise-returns-in_ok-ask_premise-in-Some-clause-fault : goal.by_premise-returns-in_ok-ask_premise-in-Some-clause-fault
by_premise-returns-in_ok-ask_premise-in-Some-clause-fault t c =
    part_faults (program_in c.args.prepared.now) c.args.budget (terms_of c.args.scope.now) (behaviour_of c.args.from.now) c.step_in.result
    (guard (derivation_of c.args.part.now)) (guard (derivation_of c.args.part.now)) _
    (terms_of c.args.scope.now) (behaviour_of c.in-Some.body.now) (derivation_of c.args.part.now) refl c.in-Some.ensures.some
    (c.in_ok-ask_premise-in-Some.ensures.holds, (refl, refl, refl)) c.step_in.ensures.fault

pub by_value-returns-in_ok-more-in-Some-clause-fault : goal.by_value-returns-in_ok-more-in-Some-clause-fault
by_value-returns-in_ok-more-in-Some-clause-fault t c =
    part_faults (program_in c.args.prepared.now) c.args.budget (terms_of c.args.scope.now) (behaviour_of c.args.from.now) c.step_in.result
    (val c.args.slot.now (derivation_of c.args.part.now)) (val (Of c.in_ok-found-in-Some.found.ops) (derivation_of c.args.part.now)) _
    (terms_of c.in_ok-more-in-Some.more) (behaviour_of c.in-Some.body.now) (derivation_of c.args.part.now) (ap (λ (o : Slot). val o
    (derivation_of c.args.part.now)) c.in_ok-found-in-Some.ensures.here) c.in-Some.ensures.some
    (term_of c.in_ok-found-in-Some.found.term, c.in_ok-found-in-Some.ensures.spelled, (sym c.in_ok-more-in-Some.ensures.with, refl, refl))
    c.step_in.ensures.fault

pub by_value-returns-in_err-found-in-Some-clause-fault : goal.by_value-returns-in_err-found-in-Some-clause-fault
by_value-returns-in_err-found-in-Some-clause-fault t c =
    let f = c.in_err-found-in-Some.field-0.0 in
    handed_on c.from_residual.result _ f (search rules)
    (value_unchosen (program_in c.args.prepared.now) c.requires.ready.executable c.args.budget (terms_of c.args.scope.now)
    (behaviour_of c.args.from.now) f _ _ c.args.slot.now (derivation_of c.args.part.now) c.in-Some.ensures.some
    c.in_err-found-in-Some.ensures.fault)

pub by_gate-returns-in_ok-body-in-Some-gate_at-clause-fault : goal.by_gate-returns-in_ok-body-in-Some-gate_at-clause-fault
by_gate-returns-in_ok-body-in-Some-gate_at-clause-fault t c =
    let there = c.in-Some-gate_at.ensures.some in
    part_faults (program_in c.args.prepared.now) c.args.budget (terms_of c.args.scope.now) (behaviour_of c.args.from.now) c.step_in.result
    (gate c.args.place (derivation_of c.args.part.now)) (gate c.args.place (derivation_of c.args.part.now)) _ (terms_of c.args.scope.now)
    (behaviour_of c.in_ok-body-in-Some-gate_at.body) (derivation_of c.args.part.now) refl c.in-Some.ensures.some (
      there.0,
      c.in-Some-gate_at.actual.0,
      there.1,
      there.2,
      (refl, sym c.in_ok-body-in-Some-gate_at.ensures.made, refl),
    ) c.step_in.ensures.fault

pub by_call-returns-in-None-2-clause-fault : goal.by_call-returns-in-None-2-clause-fault
by_call-returns-in-None-2-clause-fault t c =
    call_undefined (program_in c.args.prepared.now) c.requires.ready.executable c.args.budget (terms_of c.args.scope.now) (behaviour_of
    c.args.from.now) c.unfit-in-None-2.result c.in-Some.process
    (map gate_number c.in-Some.actual.now) (map term_of c.in-Some.terms.now) (derivation_of c.args.part.now) c.in-Some.ensures.some
    (if_none_at c.in_ok-process_at-in-Some.field-0 c.in-None-2.is c.in_ok-process_at-in-Some.ensures.none) c.unfit-in-None-2.ensures.here

pub by_call-returns-in_err-more-in-Some-2-clause-fault : goal.by_call-returns-in_err-more-in-Some-2-clause-fault
by_call-returns-in_err-more-in-Some-2-clause-fault t c =
    handed_on c.from_residual-in_err-more-in-Some-2.result _ c.in_err-more-in-Some-2.field-0.0 (search rules)
    (call_arguments (program_in c.args.prepared.now) c.requires.ready.executable c.args.budget (terms_of c.args.scope.now) (behaviour_of
    c.args.from.now) c.in_err-more-in-Some-2.field-0.0 c.in-Some.process
    (map gate_number c.in-Some.actual.now) (map term_of c.in-Some.terms.now) (map gate_number c.in-Some-2.defined.gates.items)
    (map variable_of c.in-Some-2.defined.vars.items) (behaviour_of c.in-Some-2.defined.body) (derivation_of c.args.part.now)
    c.in-Some.ensures.some (search rules) (search rules))

pub by_call-returns-in_ok-body-in-Some-2-clause-fault : goal.by_call-returns-in_ok-body-in-Some-2-clause-fault
by_call-returns-in_ok-body-in-Some-2-clause-fault t c =
    part_faults (program_in c.args.prepared.now) c.args.budget (terms_of c.args.scope.now) (behaviour_of c.args.from.now) c.step_in.result
    (calling (derivation_of c.args.part.now)) (calling (derivation_of c.args.part.now)) _ (terms_of c.in_ok-more-in-Some-2.more)
    (behaviour_of c.in_ok-body-in-Some-2.body) (derivation_of c.args.part.now) refl c.in-Some.ensures.some (
      map gate_number c.in-Some-2.defined.gates.items,
      map variable_of c.in-Some-2.defined.vars.items,
      behaviour_of c.in-Some-2.defined.body,
      terms_of c.in_ok-more-in-Some-2.more,
      (search rules),
      (search rules),
      (refl, (search rules), refl),
    ) c.step_in.ensures.fault

pub by_both-returns-in_err-first-in-Some-clause-within : goal.by_both-returns-in_err-first-in-Some-clause-within
by_both-returns-in_err-first-in-Some-clause-within t c =
    let d = both (derivation_of c.args.part.now) (derivation_of c.args.other.now) in
    let f = c.in_err-first-in-Some.field-0.0 in
    of_fault (program_in c.args.prepared.now).theory c.args.budget (Asks (program_in c.args.prepared.now) (terms_of c.args.scope.now)
    (behaviour_of c.args.from.now) d)
    c.from_residual.result f (search rules)
    (first_side_fails (program_in c.args.prepared.now) c.requires.ready.executable c.args.budget (terms_of c.args.scope.now)
    (behaviour_of c.args.from.now) f
    (synchronised_of c.in-Some.gates.now) (behaviour_of c.in-Some.left.now) (behaviour_of c.in-Some.right.now) d
    (derivation_of c.args.part.now) (derivation_of c.args.other.now) refl c.in-Some.ensures.some c.in_err-first-in-Some.ensures.fault
    c.in_err-first-in-Some.ensures.within)

pub by_both-returns-in_err-second-in-Some-clause-within : goal.by_both-returns-in_err-second-in-Some-clause-within
by_both-returns-in_err-second-in-Some-clause-within t c =
    let d = both (derivation_of c.args.part.now) (derivation_of c.args.other.now) in
    let f = c.in_err-second-in-Some.field-0.0 in
    of_fault (program_in c.args.prepared.now).theory c.args.budget (Asks (program_in c.args.prepared.now) (terms_of c.args.scope.now)
    (behaviour_of c.args.from.now) d)
    c.from_residual-in_err-second-in-Some.result f (search rules)
    (both_asked (program_in c.args.prepared.now) c.requires.ready.executable (FaultBounds
    (program_in c.args.prepared.now).theory c.args.budget f)
    (terms_of c.args.scope.now) (behaviour_of c.args.from.now) (synchronised_of c.in-Some.gates.now) (behaviour_of c.in-Some.left.now)
    (behaviour_of c.in-Some.right.now) d (derivation_of c.args.part.now) (derivation_of c.args.other.now) refl c.in-Some.ensures.some
    (λ x h. fault_within (program_in c.args.prepared.now).theory c.args.budget f x (c.in_ok-first-in-Some.ensures.within x h))
    (λ x does h. c.in_err-second-in-Some.ensures.within x h))

pub by_both-returns-in_ok-second-in-Some-clause-within : goal.by_both-returns-in_ok-second-in-Some-clause-within
by_both-returns-in_ok-second-in-Some-clause-within t c =
    let d = both (derivation_of c.args.part.now) (derivation_of c.args.other.now) in
    both_asked (program_in c.args.prepared.now) c.requires.ready.executable
    (Bounds (program_in c.args.prepared.now).theory c.args.budget c.together.result) (terms_of c.args.scope.now)
    (behaviour_of c.args.from.now)
    (synchronised_of c.in-Some.gates.now) (behaviour_of c.in-Some.left.now) (behaviour_of c.in-Some.right.now) d
    (derivation_of c.args.part.now) (derivation_of c.args.other.now) refl c.in-Some.ensures.some
    (λ x h. bounds_within (program_in c.args.prepared.now).theory c.args.budget c.together.result x
    (c.in_ok-first-in-Some.ensures.within x h))
    (λ x does h. bounds_within (program_in c.args.prepared.now).theory c.args.budget c.together.result x
    (c.in_ok-second-in-Some.ensures.within x h))

pub by_bindings-returns-in_ok-more-in-Some-clause-within : goal.by_bindings-returns-in_ok-more-in-Some-clause-within
by_bindings-returns-in_ok-more-in-Some-clause-within t c =
    part_asked (program_in c.args.prepared.now) c.requires.ready.executable (λ x. Bounds (program_in c.args.prepared.now).theory
    c.args.budget c.step_in.result x) (terms_of c.args.scope.now) (behaviour_of c.args.from.now) (letting (derivation_of
    c.args.part.now)) (letting (derivation_of c.args.part.now)) _ (terms_of c.in_ok-more-in-Some.more) (behaviour_of
    c.in-Some.body.now) (derivation_of c.args.part.now) refl c.in-Some.ensures.some (
      terms_of c.in_ok-more-in-Some.more,
      c.in_ok-more-in-Some.ensures.bound,
      (refl, refl, refl),
    ) (λ x h. bounds_within (program_in c.args.prepared.now).theory c.args.budget
    c.step_in.result x (c.in_ok-more-in-Some.ensures.within x h)) (λ x h. absurd h) c.step_in.ensures.within

pub by_premise-returns-in_ok-ask_premise-in-Some-clause-within : goal.by_premise-returns-in_ok-ask_premise-in-Some-clause-within
by_premise-returns-in_ok-ask_premise-in-Some-clause-within t c =
    part_asked (program_in c.args.prepared.now) c.requires.ready.executable (λ x. Bounds (program_in c.args.prepared.now).theory
    c.args.budget c.step_in.result x) (terms_of c.args.scope.now) (behaviour_of c.args.from.now) (guard (derivation_of
    c.args.part.now)) (guard (derivation_of c.args.part.now)) _ (terms_of c.args.scope.now) (behaviour_of c.in-Some.body.now)
    (derivation_of c.args.part.now) refl c.in-Some.ensures.some (c.in_ok-ask_premise-in-Some.ensures.holds, (refl, refl, refl)) (λ x
    h. bounds_within (program_in c.args.prepared.now).theory c.args.budget c.step_in.result x
    (c.in_ok-ask_premise-in-Some.ensures.within x h)) (λ x h. absurd h) c.step_in.ensures.within

pub by_value-returns-in_ok-more-in-Some-clause-within : goal.by_value-returns-in_ok-more-in-Some-clause-within
by_value-returns-in_ok-more-in-Some-clause-within t c =
    part_asked (program_in c.args.prepared.now) c.requires.ready.executable (λ x. Bounds (program_in c.args.prepared.now).theory
    c.args.budget c.step_in.result x) (terms_of c.args.scope.now) (behaviour_of c.args.from.now) (val c.args.slot.now (derivation_of
    c.args.part.now)) (val (Of c.in_ok-found-in-Some.found.ops) (derivation_of c.args.part.now)) _ (terms_of
    c.in_ok-more-in-Some.more) (behaviour_of c.in-Some.body.now) (derivation_of c.args.part.now) (ap (λ (o : Slot). val o
    (derivation_of c.args.part.now)) c.in_ok-found-in-Some.ensures.here) c.in-Some.ensures.some (
      term_of
          c.in_ok-found-in-Some.found.term,
      c.in_ok-found-in-Some.ensures.spelled,
      (sym c.in_ok-more-in-Some.ensures.with, refl, refl),
    )
    (λ x h. bounds_within (program_in c.args.prepared.now).theory c.args.budget c.step_in.result x
    (c.in_ok-found-in-Some.ensures.within x
    (subst (λ (o : Slot). ChoiceAsks (program_in c.args.prepared.now).theory c.in-Some.sort.0 o x) (sym c.in_ok-found-in-Some.ensures.here) h)))
    (λ x h. absurd h) c.step_in.ensures.within

pub by_gate-returns-in_ok-body-in-Some-gate_at-clause-within : goal.by_gate-returns-in_ok-body-in-Some-gate_at-clause-within
by_gate-returns-in_ok-body-in-Some-gate_at-clause-within t c =
    let there = c.in-Some-gate_at.ensures.some in
    part_asked (program_in c.args.prepared.now) c.requires.ready.executable (λ x. Bounds (program_in c.args.prepared.now).theory
    c.args.budget c.step_in.result x) (terms_of c.args.scope.now) (behaviour_of c.args.from.now) (gate c.args.place (derivation_of
    c.args.part.now)) (gate c.args.place (derivation_of c.args.part.now)) _ (terms_of c.args.scope.now) (behaviour_of
    c.in_ok-body-in-Some-gate_at.body) (derivation_of c.args.part.now) refl c.in-Some.ensures.some (
      there.0,
      c.in-Some-gate_at.actual.0,
      there.1,
      there.2,
      (refl, sym c.in_ok-body-in-Some-gate_at.ensures.made, refl),
    ) (λ x h. absurd h) (λ x h. absurd h) c.step_in.ensures.within

pub by_call-returns-in-None-2-clause-within : goal.by_call-returns-in-None-2-clause-within
by_call-returns-in-None-2-clause-within t c =
    undefined_asked (program_in c.args.prepared.now) c.requires.ready.executable (λ x. FaultBounds (program_of
    c.args.prepared.now.checked.now).theory c.args.budget c.unfit-in-None-2.result x) (terms_of c.args.scope.now) (behaviour_of c.args.from.now)
    c.in-Some.process (map gate_number c.in-Some.actual.now) (map term_of c.in-Some.terms.now) (derivation_of c.args.part.now)
    c.in-Some.ensures.some (if_none_at c.in_ok-process_at-in-Some.field-0 c.in-None-2.is c.in_ok-process_at-in-Some.ensures.none)

pub by_call-returns-in_err-more-in-Some-2-clause-within : goal.by_call-returns-in_err-more-in-Some-2-clause-within
by_call-returns-in_err-more-in-Some-2-clause-within t c =
    of_fault (program_in c.args.prepared.now).theory c.args.budget (Asks (program_in c.args.prepared.now) (terms_of c.args.scope.now)
    (behaviour_of c.args.from.now) (calling (derivation_of c.args.part.now))) c.from_residual-in_err-more-in-Some-2.result
    c.in_err-more-in-Some-2.field-0.0 (search rules) (arguments_fail (program_in c.args.prepared.now) c.requires.ready.executable
    c.args.budget (terms_of c.args.scope.now) (behaviour_of c.args.from.now) c.in_err-more-in-Some-2.field-0.0 c.in-Some.process (map
    gate_number c.in-Some.actual.now) (map term_of c.in-Some.terms.now) (map gate_number c.in-Some-2.defined.gates.items)
    (map variable_of c.deref.result.now) (behaviour_of c.in-Some-2.defined.body) (derivation_of c.args.part.now)
    c.in-Some.ensures.some (search rules) c.in_err-more-in-Some-2.ensures.fault c.in_err-more-in-Some-2.ensures.within)

pub by_call-returns-in_ok-body-in-Some-2-clause-within : goal.by_call-returns-in_ok-body-in-Some-2-clause-within
by_call-returns-in_ok-body-in-Some-2-clause-within t c =
    part_asked (program_in c.args.prepared.now) c.requires.ready.executable (λ x. Bounds (program_in c.args.prepared.now).theory
    c.args.budget c.step_in.result x) (terms_of c.args.scope.now) (behaviour_of c.args.from.now) (calling (derivation_of
    c.args.part.now)) (calling (derivation_of c.args.part.now)) _ (terms_of c.in_ok-more-in-Some-2.more) (behaviour_of
    c.in_ok-body-in-Some-2.body) (derivation_of c.args.part.now) refl c.in-Some.ensures.some (
      map gate_number
          c.in-Some-2.defined.gates.items,
      map variable_of c.in-Some-2.defined.vars.items,
      behaviour_of c.in-Some-2.defined.body,
      terms_of
          c.in_ok-more-in-Some-2.more,
      (search rules),
      (search rules),
      (refl, (search rules), refl),
    ) (own_arguments (program_of
    c.args.prepared.now.checked.now) c.requires.ready.executable (λ x. Bounds (program_in c.args.prepared.now).theory c.args.budget c.step_in.result
    x) (terms_of c.args.scope.now) (behaviour_of c.args.from.now) c.in-Some.process (map gate_number c.in-Some.actual.now) (map
    term_of c.in-Some.terms.now) (map gate_number c.in-Some-2.defined.gates.items) (map variable_of c.deref.result.now)
    (behaviour_of c.in-Some-2.defined.body) (derivation_of c.args.part.now) (search rules) (λ x h. bounds_within (program_of
    c.args.prepared.now.checked.now).theory c.args.budget c.step_in.result x (c.in_ok-more-in-Some-2.ensures.within x h))) (λ x h. absurd h)
    c.step_in.ensures.within

pub by_both-returns-in-None-clause-within : goal.by_both-returns-in-None-clause-within
by_both-returns-in-None-clause-within t c =
    let d = both (derivation_of c.args.part.now) (derivation_of c.args.other.now) in
    asks_nothing (program_in c.args.prepared.now) (FaultBounds (program_in c.args.prepared.now).theory c.args.budget c.unfit.result)
    (terms_of c.args.scope.now) (behaviour_of c.args.from.now) d d refl c.in-None.ensures.none

pub step_in-returns-in-Ok-clause-derives : goal.step_in-returns-in-Ok-clause-derives
step_in-returns-in-Ok-clause-derives t c = c.in-Ok.ensures.derives

pub step_in-returns-in-Ok-clause-within : goal.step_in-returns-in-Ok-clause-within
step_in-returns-in-Ok-clause-within t c = c.in-Ok.ensures.within

pub step_in-returns-in-Err-clause-fault : goal.step_in-returns-in-Err-clause-fault
step_in-returns-in-Err-clause-fault t c =
    below_explains (program_in c.args.prepared.now).theory c.args.budget c.args.place _
    (Asks (program_in c.args.prepared.now) (terms_of c.args.scope.now) (behaviour_of c.args.from.now) (derivation_of c.args.part.now))
    c.in-Err.fault c.below.result c.below.ensures.below c.in-Err.ensures.fault

pub step_in-returns-in-Err-clause-within : goal.step_in-returns-in-Err-clause-within
step_in-returns-in-Err-clause-within t c =
    λ x h. below_bounds (program_in c.args.prepared.now).theory c.args.budget c.args.place c.in-Err.fault c.below.result x
    c.below.ensures.below (c.in-Err.ensures.within x h)

pub by_bindings-returns-in-None-clause-within : goal.by_bindings-returns-in-None-clause-within
by_bindings-returns-in-None-clause-within t c =
    asks_nothing (program_in c.args.prepared.now) (FaultBounds (program_in c.args.prepared.now).theory c.args.budget c.unfit.result)
    (terms_of c.args.scope.now) (behaviour_of c.args.from.now) (letting (derivation_of c.args.part.now)) (letting (derivation_of
    c.args.part.now)) refl c.in-None.ensures.none

pub by_call-returns-in-None-clause-within : goal.by_call-returns-in-None-clause-within
by_call-returns-in-None-clause-within t c =
    asks_nothing (program_in c.args.prepared.now) (FaultBounds (program_in c.args.prepared.now).theory c.args.budget c.unfit.result)
    (terms_of c.args.scope.now) (behaviour_of c.args.from.now) (calling (derivation_of c.args.part.now)) (calling (derivation_of
    c.args.part.now)) refl c.in-None.ensures.none

pub by_gate-returns-in-None-clause-within : goal.by_gate-returns-in-None-clause-within
by_gate-returns-in-None-clause-within t c =
    asks_nothing (program_in c.args.prepared.now) (FaultBounds (program_in c.args.prepared.now).theory c.args.budget c.unfit.result)
    (terms_of c.args.scope.now) (behaviour_of c.args.from.now) (gate c.args.place (derivation_of c.args.part.now)) (gate c.args.place
    (derivation_of c.args.part.now)) refl c.in-None.ensures.none

pub by_premise-returns-in-None-clause-within : goal.by_premise-returns-in-None-clause-within
by_premise-returns-in-None-clause-within t c =
    asks_nothing (program_in c.args.prepared.now) (FaultBounds (program_in c.args.prepared.now).theory c.args.budget c.unfit.result)
    (terms_of c.args.scope.now) (behaviour_of c.args.from.now) (guard (derivation_of c.args.part.now)) (guard (derivation_of
    c.args.part.now)) refl c.in-None.ensures.none

pub by_value-returns-in-None-clause-within : goal.by_value-returns-in-None-clause-within
by_value-returns-in-None-clause-within t c =
    asks_nothing (program_in c.args.prepared.now) (FaultBounds (program_in c.args.prepared.now).theory c.args.budget c.unfit.result)
    (terms_of c.args.scope.now) (behaviour_of c.args.from.now) (val c.args.slot.now (derivation_of c.args.part.now)) (val
    c.args.slot.now (derivation_of c.args.part.now)) refl c.in-None.ensures.none

pub by_bindings-returns-in_err-more-in-Some-clause-within : goal.by_bindings-returns-in_err-more-in-Some-clause-within
by_bindings-returns-in_err-more-in-Some-clause-within t c =
    of_fault (program_in c.args.prepared.now).theory c.args.budget (Asks (program_in c.args.prepared.now) (terms_of c.args.scope.now)
    (behaviour_of c.args.from.now) (letting (derivation_of c.args.part.now))) c.from_residual.result c.in_err-more-in-Some.field-0.0
    (search rules) (bindings_fail (program_in c.args.prepared.now) c.requires.ready.executable c.args.budget (terms_of
    c.args.scope.now) (behaviour_of c.args.from.now) c.in_err-more-in-Some.field-0.0 _ _ (derivation_of c.args.part.now)
    c.in-Some.ensures.some c.in_err-more-in-Some.ensures.fault c.in_err-more-in-Some.ensures.within)

pub by_premise-returns-in_err-ask_premise-in-Some-clause-within : goal.by_premise-returns-in_err-ask_premise-in-Some-clause-within
by_premise-returns-in_err-ask_premise-in-Some-clause-within t c =
    of_fault (program_in c.args.prepared.now).theory c.args.budget (Asks (program_in c.args.prepared.now) (terms_of c.args.scope.now)
    (behaviour_of c.args.from.now) (guard (derivation_of c.args.part.now))) c.from_residual.result
    c.in_err-ask_premise-in-Some.field-0.0 (search rules) (premise_fails (program_in c.args.prepared.now) c.requires.ready.executable
    c.args.budget (terms_of c.args.scope.now) (behaviour_of c.args.from.now) c.in_err-ask_premise-in-Some.field-0.0 _ _ (derivation_of
    c.args.part.now) c.in-Some.ensures.some c.in_err-ask_premise-in-Some.ensures.fault c.in_err-ask_premise-in-Some.ensures.within)

pub by_value-returns-in_err-found-in-Some-clause-within : goal.by_value-returns-in_err-found-in-Some-clause-within
by_value-returns-in_err-found-in-Some-clause-within t c =
    of_fault (program_in c.args.prepared.now).theory c.args.budget (Asks (program_in c.args.prepared.now) (terms_of c.args.scope.now)
    (behaviour_of c.args.from.now) (val c.args.slot.now (derivation_of c.args.part.now))) c.from_residual.result
    c.in_err-found-in-Some.field-0.0 (search rules) (choice_fails (program_in c.args.prepared.now) c.requires.ready.executable
    c.args.budget (terms_of c.args.scope.now) (behaviour_of c.args.from.now) c.in_err-found-in-Some.field-0.0 _ _ c.args.slot.now
    (derivation_of c.args.part.now) c.in-Some.ensures.some c.in_err-found-in-Some.ensures.fault
    c.in_err-found-in-Some.ensures.within)

pub by_gate-returns-in-None-gate_at-clause-within : goal.by_gate-returns-in-None-gate_at-clause-within
by_gate-returns-in-None-gate_at-clause-within t c =
    gate_asked (program_in c.args.prepared.now) c.requires.ready.executable (FaultBounds (program_in c.args.prepared.now).theory
    c.args.budget c.unfit-in-None-gate_at.result) (terms_of c.args.scope.now) (behaviour_of c.args.from.now) _ _ _ c.args.place
    (derivation_of c.args.part.now) c.in-Some.ensures.some (λ h. c.in-None-gate_at.ensures.none h.0 h.1 h.2 h.3)

pub over_part-leave-requires-clause-given : goal.over_part-leave-requires-clause-given
over_part-leave-requires-clause-given t c =
    step_spelled (program_in c.args.prepared.now) (derivation_of c.args.part.now) (behaviour_of c.in-Some.framed.part.now)
    (terms_of c.args.scope.now) c.in_ok-done-in-Some.done.action (behaviour_of c.in_ok-done-in-Some.done.rest)
    c.in_ok-done-in-Some.ensures.derives

pub over_part-returns-in-None : goal.over_part-returns-in-None
over_part-returns-in-None t c =
    no_part (program_in c.args.prepared.now) c.requires.ready.executable c.args.budget (terms_of c.args.scope.now)
    (behaviour_of c.args.from.now) (derivation_of c.args.rules.now) (derivation_of c.args.part.now) c.requires.over c.unfit.result
    (search rules) c.unfit.ensures.here

pub over_part-returns-in_err-done-in-Some : goal.over_part-returns-in_err-done-in-Some
over_part-returns-in_err-done-in-Some t c =
    failed (program_in c.args.prepared.now) c.args.budget (terms_of c.args.scope.now) (behaviour_of c.args.from.now)
    (derivation_of c.args.rules.now) c.from_residual.result c.in_err-done-in-Some.field-0.0 (search rules)
    (part_fails (program_in c.args.prepared.now) c.requires.ready.executable c.args.budget (terms_of c.args.scope.now)
    (behaviour_of c.args.from.now) (derivation_of c.args.rules.now) (derivation_of c.args.part.now) c.requires.over
    (framed_in c.in-Some.framed) (search rules) c.in_err-done-in-Some.field-0.0 c.in_err-done-in-Some.ensures.fault
    c.in_err-done-in-Some.ensures.within)

pub over_part-returns-in_ok-done-in-Some : goal.over_part-returns-in_ok-done-in-Some
over_part-returns-in_ok-done-in-Some t c =
    part_does (program_in c.args.prepared.now) c.requires.ready.executable c.args.budget (terms_of c.args.scope.now)
    (behaviour_of c.args.from.now) (derivation_of c.args.rules.now) (derivation_of c.args.part.now) c.requires.over
    (framed_in c.in-Some.framed) (search rules) c.in_ok-done-in-Some.done c.leave.result c.in_ok-done-in-Some.ensures.derives
    c.in_ok-done-in-Some.ensures.within c.leave.ensures

pub step-returns-in-Pre : goal.step-returns-in-Pre
step-returns-in-Pre t c =
    answers (program_in c.args.prepared.now) c.args.budget (terms_of c.args.scope.now) (behaviour_of c.args.from.now)
    (derivation_of c.args.rules.now) _ c.prefix.result c.prefix.ensures.within (search rules)
    c.prefix.ensures.derives c.prefix.ensures.fault

pub step-returns-in-Exit : goal.step-returns-in-Exit
step-returns-in-Exit t c =
    answers (program_in c.args.prepared.now) c.args.budget (terms_of c.args.scope.now) (behaviour_of c.args.from.now)
    (derivation_of c.args.rules.now) _ c.exits.result c.exits.ensures.within (search rules)
    c.exits.ensures.derives c.exits.ensures.fault

pub step-returns-in-Val : goal.step-returns-in-Val
step-returns-in-Val t c =
    answers (program_in c.args.prepared.now) c.args.budget (terms_of c.args.scope.now) (behaviour_of c.args.from.now)
    (derivation_of c.args.rules.now) _ c.by_value.result c.by_value.ensures.within (search rules)
    c.by_value.ensures.derives c.by_value.ensures.fault

pub step-returns-in-Gate : goal.step-returns-in-Gate
step-returns-in-Gate t c =
    answers (program_in c.args.prepared.now) c.args.budget (terms_of c.args.scope.now) (behaviour_of c.args.from.now)
    (derivation_of c.args.rules.now) _ c.by_gate.result c.by_gate.ensures.within (search rules)
    c.by_gate.ensures.derives c.by_gate.ensures.fault

pub step-returns-in-Guard : goal.step-returns-in-Guard
step-returns-in-Guard t c =
    answers (program_in c.args.prepared.now) c.args.budget (terms_of c.args.scope.now) (behaviour_of c.args.from.now)
    (derivation_of c.args.rules.now) _ c.by_premise.result c.by_premise.ensures.within (search rules)
    c.by_premise.ensures.derives c.by_premise.ensures.fault

pub step-returns-in-Let : goal.step-returns-in-Let
step-returns-in-Let t c =
    answers (program_in c.args.prepared.now) c.args.budget (terms_of c.args.scope.now) (behaviour_of c.args.from.now)
    (derivation_of c.args.rules.now) _ c.by_bindings.result c.by_bindings.ensures.within (search rules)
    c.by_bindings.ensures.derives c.by_bindings.ensures.fault

pub step-returns-in-Both : goal.step-returns-in-Both
step-returns-in-Both t c =
    answers (program_in c.args.prepared.now) c.args.budget (terms_of c.args.scope.now) (behaviour_of c.args.from.now)
    (derivation_of c.args.rules.now) _ c.by_both.result c.by_both.ensures.within (search rules)
    c.by_both.ensures.derives c.by_both.ensures.fault

pub step-returns-in-Call : goal.step-returns-in-Call
step-returns-in-Call t c =
    answers (program_in c.args.prepared.now) c.args.budget (terms_of c.args.scope.now) (behaviour_of c.args.from.now)
    (derivation_of c.args.rules.now) _ c.by_call.result c.by_call.ensures.within (search rules)
    c.by_call.ensures.derives c.by_call.ensures.fault

pub step-returns-in-Int : goal.step-returns-in-Int
step-returns-in-Int t c =
    inner_answers (program_in c.args.prepared.now) c.requires.ready.executable c.args.budget (terms_of c.args.scope.now)
    (behaviour_of c.args.from.now) (derivation_of c.args.rules.now) c.inner.result (search rules) c.inner.ensures.does
    c.inner.ensures.misfit

pub step-returns-in-Chl : goal.step-returns-in-Chl
step-returns-in-Chl t c = c.over_part.ensures

pub step-returns-in-Chr : goal.step-returns-in-Chr
step-returns-in-Chr t c = c.over_part-in-Chr.ensures

pub step-returns-in-Parl : goal.step-returns-in-Parl
step-returns-in-Parl t c = c.over_part-in-Parl.ensures

pub step-returns-in-Parr : goal.step-returns-in-Parr
step-returns-in-Parr t c = c.over_part-in-Parr.ensures

pub step-returns-in-Hide : goal.step-returns-in-Hide
step-returns-in-Hide t c = c.over_part-in-Hide.ensures

pub step-returns-in-Pass : goal.step-returns-in-Pass
step-returns-in-Pass t c = c.over_part-in-Pass.ensures

pub step-returns-in-Enstep : goal.step-returns-in-Enstep
step-returns-in-Enstep t c = c.over_part-in-Enstep.ensures

pub step-returns-in-Enend : goal.step-returns-in-Enend
step-returns-in-Enend t c = c.over_part-in-Enend.ensures

pub step-returns-in-Disstep : goal.step-returns-in-Disstep
step-returns-in-Disstep t c = c.over_part-in-Disstep.ensures

pub step-returns-in-Disend : goal.step-returns-in-Disend
step-returns-in-Disend t c = c.over_part-in-Disend.ensures

pub step-returns-in-Distake : goal.step-returns-in-Distake
step-returns-in-Distake t c = c.over_part-in-Distake.ensures

pub step-returns-in-Rel : goal.step-returns-in-Rel
step-returns-in-Rel t c = c.over_part-in-Rel.ensures
