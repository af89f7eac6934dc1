use Rattle.std.proofs.Common.{◌≡◌, ◌+◌, [], ◌∷◌, ◌++◌, map, take, sym, ap, subst, ◌∙◌, arith, true, Ok}
use Rattle.std.proofs.lemmas.List.{append-nil, take_all}
use Rattle.spec_core.specs.Code.{variable_of, binding_of, relabelling_of, exit_value_of, Variable}
use Rattle.spec_core.specs.Numbers.{gate_number}
use Rattle.spec_core.specs.Terms.{term_of}
use Rattle.spec_core.specs.Theories.{premise}
use Rattle.spec_core.proofs.Booleans.{test_fails}
use Rattle.spec_core.proofs.Options.{if_none_at}
use Rattle.rule_model.specs.declared.rules.Slot.TheVariants.{Of, Mark}
use Rattle.rule_model.specs.Behaviours.{stop, exit, bound, gate_choice, call}
use Rattle.rule_origins.specs.Parts.{behaviour_at}
use Rattle.symbolic_rules.specs.MarkedTerms.{MarkedAssignment}
use Rattle.symbolic_rules.specs.MarkedFields.{BindingsMayHave, ArgumentsMayHave}
use Rattle.symbolic_plans.specs.OpenPlans.{open_plan_of, under_relabelling, plan_by_hiding}
use Rattle.node_values.specs.declared.scope.Given.TheVariants.{Value}
use Rattle.node_values.specs.Scopes.{marks_of, marked_of}
use Rattle.node_values.proofs.Finding.{of_some}
use Rattle.match_code.specs.Prepared.{program_in}
use Rattle.expand.specs.Choosing.{IsChoice, AddsChoice, ExpandsEach}
use Rattle.expand.specs.Joins.{Turns}
use Rattle.expand.specs.Outcomes.{Outcome, BelowOutcome}
use Rattle.symbolic_rules.specs.Tables.{windows_in}
use Rattle.expand.proofs.Calling.{is_definition, nothing_below, call_comes, no_arguments_come, argument_stops, no_definition_comes}
use Rattle.expand.proofs.Choosing.{added, all_chosen}
use Rattle.expand.proofs.Rows.{ended_comes, inner_comes, choice_comes, parallel_comes, disable_comes, hide_comes, enable_comes}
use Rattle.expand.proofs.Rows.{relabel_comes, guarded_comes, failing_comes, guard_stops, bound_comes, unbound_comes}
use Rattle.expand.proofs.Rows.{binding_stops}
use Rattle.expand.proofs.Showing.{listed_choice, marked_choice}
use Rattle.expand.proofs.Walking.{of_construct, of_equal, of_action, none_come, some_gates_come, one_call_less, no_slot, begun_stops}
use Rattle.expand.proofs.Walking.{with_next, is_listed, value_begins, complete_slots, marked_slots}
use Rattle.expand.proofs.walk.+walk.Goals as goal

pub add_choice-returns-in-Ok : goal.add_choice-returns-in-Ok
add_choice-returns-in-Ok t c = record {
  added = λ slots prefix each.
      let p = program_in c.args.prepared.now in
      let w = windows_in c.args.windows.now in
      let x : Variable = record { number = c.args.x; sort = c.args.sort.0 } in
      let b = behaviour_at p c.args.body in
      let inner : c.deref.result.now ≡ (c.args.x, c.args.given) ∷ c.args.scope.now = c.deref.ensures.value ∙ c.in-Ok.ensures in
      added p w c.args.calls c.args.budget (marks_of p.theory c.args.scope.now) x b slots c.args.slot
      (marked_of p.theory c.args.x c.args.given) (map open_plan_of c.args.all.composites.items) c.args.all.spread
      c.expand_at-part.result c.beside.result prefix c.requires.choice each
      (subst (λ s. Outcome p w c.args.calls c.args.budget (marks_of p.theory s) b c.expand_at-part.result) inner
      c.expand_at-part.ensures.comes)
      c.beside.ensures.beside;
}

pub add_value-add_choice-requires : goal.add_value-add_choice-requires
add_value-add_choice-requires t c =
    let p = program_in c.args.prepared.now in
    let w = windows_in c.args.windows.now in (
      omega (arith, c.decreases),
      (
        c.requires.ready,
        (
          c.requires.rows,
          subst (λ v. IsChoice p.theory w c.args.sort.0 (Of v) (marked_of p.theory c.args.x (Value c.in-Ok-copy.second)))
              (sym c.in-Ok.ensures.equal)
              (subst (λ v. IsChoice p.theory w c.args.sort.0 (Of c.args.value.now) (marked_of p.theory c.args.x (Value v)))
              (sym c.in-Ok-copy.ensures.equal)
              (listed_choice p.theory c.requires.ready.executable c.requires.rows.0 c.args.windows.now c.requires.rows.1 c.args.sort.0 c.args.x c.args.value.now
              c.requires.listed)),
        ),
      ),
    )

pub add_value-returns-in-Ok-copy : goal.add_value-returns-in-Ok-copy
add_value-returns-in-Ok-copy t c = record {
  added =
      let p = program_in c.args.prepared.now in
      subst (λ v. AddsChoice p (windows_in c.args.windows.now) c.args.calls c.args.budget (marks_of p.theory c.args.scope.now)
      (record { number = c.args.x; sort = c.args.sort.0 }) (behaviour_at p c.args.body) (map open_plan_of c.args.all.composites.items)
      c.args.all.spread (Of v) c.add_choice.result) c.in-Ok.ensures.equal c.add_choice.ensures.added;
}

pub bound_at-returns-in-Err-bind : goal.bound_at-returns-in-Err-bind
bound_at-returns-in-Err-bind t c = record {
  comes =
      let p = program_in c.args.prepared.now in
      binding_stops p (windows_in c.args.windows.now) c.args.calls c.args.budget (marks_of p.theory c.args.scope.now)
      (map binding_of c.args.bindings.now) (behaviour_at p c.args.body) c.in-Err-bind.stop c.in-Err-bind.ensures.fault;
}

pub bound_at-returns-in-Ok-None : goal.bound_at-returns-in-Ok-None
bound_at-returns-in-Ok-None t c = record {
  comes =
      let p = program_in c.args.prepared.now in
      let m = marks_of p.theory c.args.scope.now in
      let bindings = map binding_of c.args.bindings.now in
      unbound_comes p (windows_in c.args.windows.now) c.args.calls c.args.budget m bindings (behaviour_at p c.args.body) c.nothing.result
      (subst (λ z. (r : MarkedAssignment) → BindingsMayHave p.theory m z bindings r → ⊥) (ap (marks_of p.theory) c.in-Ok.ensures.equal)
      (if_none_at c.in-Ok-None.field-0 c.in-Ok-None.field-0-is c.in-Ok-None.ensures.none))
      c.nothing.ensures.nothing;
}

pub bound_at-returns-in-Ok-Some : goal.bound_at-returns-in-Ok-Some
bound_at-returns-in-Ok-Some t c = record {
  comes =
      let p = program_in c.args.prepared.now in
      let w = windows_in c.args.windows.now in
      let m = marks_of p.theory c.args.scope.now in
      let bindings = map binding_of c.args.bindings.now in
      let b = behaviour_at p c.args.body in
      let l = marks_of p.theory c.in-Ok-Some.inner.items in
      bound_comes p w c.args.calls c.args.budget c.requires.ready.executable m l bindings b c.expand_at-part.result c.under_rule.result
      (subst (λ z. BindingsMayHave p.theory m z bindings l) (ap (marks_of p.theory) c.in-Ok.ensures.equal)
      (of_some (λ s. BindingsMayHave p.theory m (marks_of p.theory c.in-Ok.copied.items) bindings (marks_of p.theory s.items))
      c.in-Ok-Some.field-0 c.in-Ok-Some.inner c.in-Ok-Some.field-0-is c.in-Ok-Some.ensures.some))
      c.under_rule.ensures.under
      (subst (λ s. Outcome p w c.args.calls c.args.budget (marks_of p.theory s) b c.expand_at-part.result) c.deref.ensures.value
      c.expand_at-part.ensures.comes);
}

pub call_at-returns-in-None : goal.call_at-returns-in-None
call_at-returns-in-None t c = record {
  comes =
      let p = program_in c.args.prepared.now in
      no_definition_comes p (windows_in c.args.windows.now) c.args.budget c.args.calls (marks_of p.theory c.args.scope.now) c.args.number
      (map gate_number c.args.gates.now) (map term_of c.args.values.now) c.nothing.result c.in-None.ensures.none c.nothing.ensures.nothing;
}

pub enter-returns-then-calls-eq0 : goal.enter-returns-then-calls-eq0
enter-returns-then-calls-eq0 t c = record {
  comes =
      let p = program_in c.args.prepared.now in
      let w = windows_in c.args.windows.now in
      let m = marks_of p.theory c.args.scope.now in
      let b = behaviour_at p c.args.body in
      subst (λ z. BelowOutcome p w z c.args.budget m b c.nothing.result) (sym c.if-calls-eq0.true)
      (nothing_below p w c.args.budget m b c.nothing.result c.nothing.ensures.nothing);
}

pub enter-returns-else-calls-eq0 : goal.enter-returns-else-calls-eq0
enter-returns-else-calls-eq0 t c = record {
  comes =
      let p = program_in c.args.prepared.now in
      one_call_less p (windows_in c.args.windows.now) c.args.calls c.args.budget (marks_of p.theory c.args.scope.now)
      (behaviour_at p c.args.body) c.expand_at.result c.if-calls-eq0.false c.expand_at.ensures.comes;
}

pub expand_at-returns-in-None : goal.expand_at-returns-in-None
expand_at-returns-in-None t c = record {
  comes =
      let p = program_in c.args.prepared.now in
      let w = windows_in c.args.windows.now in
      let m = marks_of p.theory c.args.scope.now in
      of_equal p w c.args.calls c.args.budget m c.nothing.result (behaviour_at p c.args.node) stop c.in-None.ensures.none
      (ended_comes p w c.args.calls c.args.budget m c.nothing.result c.nothing.ensures.nothing);
}

pub expand_at-returns-in-Some : goal.expand_at-returns-in-Some
expand_at-returns-in-Some t c = record {
  comes =
      let p = program_in c.args.prepared.now in
      of_equal p (windows_in c.args.windows.now) c.args.calls c.args.budget (marks_of p.theory c.args.scope.now)
      c.expand_construct.result (behaviour_at p c.args.node) _ c.in-Some.ensures.some c.expand_construct.ensures.comes;
}

pub gate_choice_at-returns-in-len1-up : goal.gate_choice_at-returns-in-len1-up
gate_choice_at-returns-in-len1-up t c = record {
  comes =
      let p = program_in c.args.prepared.now in
      some_gates_come p (windows_in c.args.windows.now) c.args.calls c.args.budget (marks_of p.theory c.args.scope.now)
      c.gate_choice.result c.args.gate.0 c.args.gates.now (behaviour_at p c.args.body) c.expand_at-part.result c.in-len1-up.len_at_least
      c.gate_choice.ensures.gates c.expand_at-part.ensures.comes;
}

pub guard_at-returns-in-Err : goal.guard_at-returns-in-Err
guard_at-returns-in-Err t c = record {
  comes =
      let p = program_in c.args.prepared.now in
      guard_stops p (windows_in c.args.windows.now) c.args.calls c.args.budget (marks_of p.theory c.args.scope.now)
      (premise (term_of c.args.left.now) (term_of c.args.right.now)) (behaviour_at p c.args.body) c.in-Err.stop c.in-Err.ensures.fault;
}

pub guard_at-returns-then-holds : goal.guard_at-returns-then-holds
guard_at-returns-then-holds t c = record {
  comes =
      let p = program_in c.args.prepared.now in
      let holds : c.in-Ok.holds ≡ true = c.if-holds.true in
      guarded_comes p (windows_in c.args.windows.now) c.args.calls c.args.budget (marks_of p.theory c.args.scope.now)
      (premise (term_of c.args.left.now) (term_of c.args.right.now)) (behaviour_at p c.args.body) c.expand_at-part.result
      c.under_rule.result (c.in-Ok.ensures.decides.0 holds) c.under_rule.ensures.under c.expand_at-part.ensures.comes;
}

pub guard_at-returns-else-holds : goal.guard_at-returns-else-holds
guard_at-returns-else-holds t c = record {
  comes =
      let p = program_in c.args.prepared.now in
      failing_comes p (windows_in c.args.windows.now) c.args.calls c.args.budget (marks_of p.theory c.args.scope.now)
      (premise (term_of c.args.left.now) (term_of c.args.right.now)) (behaviour_at p c.args.body) c.nothing.result
      (test_fails c.in-Ok.holds c.if-holds.false c.in-Ok.ensures.decides) c.nothing.ensures.nothing;
}

pub expand_construct-returns-in-Stop : goal.expand_construct-returns-in-Stop
expand_construct-returns-in-Stop t c = record {
  comes =
      let p = program_in c.args.prepared.now in
      let w = windows_in c.args.windows.now in
      let n = c.args.calls in
      let k = c.args.budget in
      let m = marks_of p.theory c.args.scope.now in
      of_construct p w n k m c.nothing.result _ _ c.in-Stop.is
      (ended_comes p w n k m c.nothing.result c.nothing.ensures.nothing);
}

pub expand_construct-returns-in-Process : goal.expand_construct-returns-in-Process
expand_construct-returns-in-Process t c = record {
  comes =
      let p = program_in c.args.prepared.now in
      let w = windows_in c.args.windows.now in
      let n = c.args.calls in
      let k = c.args.budget in
      let m = marks_of p.theory c.args.scope.now in
      of_construct p w n k m c.nothing-in-Process.result _ _ c.in-Process.is
      (ended_comes p w n k m c.nothing-in-Process.result c.nothing-in-Process.ensures.nothing);
}

pub expand_construct-returns-in-Inner : goal.expand_construct-returns-in-Inner
expand_construct-returns-in-Inner t c = record {
  comes =
      let p = program_in c.args.prepared.now in
      let w = windows_in c.args.windows.now in
      let n = c.args.calls in
      let k = c.args.budget in
      let m = marks_of p.theory c.args.scope.now in
      of_construct p w n k m c.inner_at.result _ _ c.in-Inner.is
      (inner_comes p w n k m _ c.inner_at.result c.inner_at.ensures.inner);
}

pub expand_construct-returns-in-Choice : goal.expand_construct-returns-in-Choice
expand_construct-returns-in-Choice t c = record {
  comes =
      let p = program_in c.args.prepared.now in
      let w = windows_in c.args.windows.now in
      let n = c.args.calls in
      let k = c.args.budget in
      let m = marks_of p.theory c.args.scope.now in
      of_construct p w n k m c.choice.result _ _ c.in-Choice.is
      (choice_comes p w n k m _ _ _ _ c.choice.result c.choice.ensures.choice c.expand_at-first.ensures.comes c.expand_at-second.ensures.comes);
}

pub expand_construct-returns-in-Guard : goal.expand_construct-returns-in-Guard
expand_construct-returns-in-Guard t c = record {
  comes =
      let p = program_in c.args.prepared.now in
      let w = windows_in c.args.windows.now in
      let n = c.args.calls in
      let k = c.args.budget in
      let m = marks_of p.theory c.args.scope.now in
      of_construct p w n k m c.guard_at.result _ _ c.in-Guard.is
      (c.guard_at.ensures.comes);
}

pub expand_construct-returns-in-Values : goal.expand_construct-returns-in-Values
expand_construct-returns-in-Values t c = record {
  comes =
      let p = program_in c.args.prepared.now in
      let w = windows_in c.args.windows.now in
      let n = c.args.calls in
      let k = c.args.budget in
      let m = marks_of p.theory c.args.scope.now in
      of_construct p w n k m c.value_choice_at.result _ _ c.in-Values.is
      (c.value_choice_at.ensures.comes);
}

pub expand_construct-returns-in-Par : goal.expand_construct-returns-in-Par
expand_construct-returns-in-Par t c = record {
  comes =
      let p = program_in c.args.prepared.now in
      let w = windows_in c.args.windows.now in
      let n = c.args.calls in
      let k = c.args.budget in
      let m = marks_of p.theory c.args.scope.now in
      of_construct p w n k m c.parallel.result _ _ c.in-Par.is
      (parallel_comes p w n k m _ _ _ _ _ c.parallel.result c.parallel.ensures.parallel c.expand_at-first-in-Par.ensures.comes c.expand_at-second-in-Par.ensures.comes);
}

pub expand_construct-returns-in-Enable : goal.expand_construct-returns-in-Enable
expand_construct-returns-in-Enable t c = record {
  comes =
      let p = program_in c.args.prepared.now in
      let w = windows_in c.args.windows.now in
      let n = c.args.calls in
      let k = c.args.budget in
      let m = marks_of p.theory c.args.scope.now in
      of_construct p w n k m c.enable.result _ _ c.in-Enable.is
      (enable_comes p w n k m _ _ _ _ c.enable.result c.enable.ensures.enable c.expand_at-part-in-Enable.ensures.comes);
}

pub expand_construct-returns-in-Disable : goal.expand_construct-returns-in-Disable
expand_construct-returns-in-Disable t c = record {
  comes =
      let p = program_in c.args.prepared.now in
      let w = windows_in c.args.windows.now in
      let n = c.args.calls in
      let k = c.args.budget in
      let m = marks_of p.theory c.args.scope.now in
      of_construct p w n k m c.disable.result _ _ c.in-Disable.is
      (disable_comes p w n k m _ _ _ _ c.disable.result c.disable.ensures.disable c.expand_at-first-in-Disable.ensures.comes c.expand_at-second-in-Disable.ensures.comes);
}

pub gate_choice_at-returns-in-empty : goal.gate_choice_at-returns-in-empty
gate_choice_at-returns-in-empty t c = record {
  comes =
      let p = program_in c.args.prepared.now in
      none_come p (windows_in c.args.windows.now) c.args.calls c.args.budget (marks_of p.theory c.args.scope.now) c.nothing.result
      c.args.gate.0 c.args.gates.now (behaviour_at p c.args.body) c.in-empty.len_below c.nothing.ensures.nothing;
}

pub call_at-returns-in-Err : goal.call_at-returns-in-Err
call_at-returns-in-Err t c = record {
  comes =
      let p = program_in c.args.prepared.now in
      let formal = map gate_number c.in-Some.formal.now in
      let xs = map variable_of c.in-Some.vars.now in
      argument_stops p (windows_in c.args.windows.now) c.args.budget c.args.calls (marks_of p.theory c.args.scope.now) c.args.number
      (map gate_number c.args.gates.now) formal xs (map term_of c.args.values.now) (behaviour_at p c.in-Some.body) c.in-Err.stop
      (is_definition p c.requires.ready c.args.number formal xs c.in-Some.body c.in-Some.ensures.some) c.in-Err.ensures.fault;
}

pub call_at-returns-in-Ok-None : goal.call_at-returns-in-Ok-None
call_at-returns-in-Ok-None t c = record {
  comes =
      let p = program_in c.args.prepared.now in
      let m = marks_of p.theory c.args.scope.now in
      let formal = map gate_number c.in-Some.formal.now in
      let xs = map variable_of c.in-Some.vars.now in
      let terms = map term_of c.args.values.now in
      no_arguments_come p (windows_in c.args.windows.now) c.args.budget c.args.calls m c.args.number (map gate_number c.args.gates.now)
      formal xs terms (behaviour_at p c.in-Some.body) c.nothing-in-Ok-None.result
      (is_definition p c.requires.ready c.args.number formal xs c.in-Some.body c.in-Some.ensures.some)
      (subst (λ z. (l : MarkedAssignment) → ArgumentsMayHave p.theory m z xs terms l → ⊥) (ap (marks_of p.theory) c.new.ensures.items)
      (if_none_at c.in-Ok-None.field-0 c.in-Ok-None.field-0-is c.in-Ok-None.ensures.none))
      c.nothing-in-Ok-None.ensures.nothing;
}

pub call_at-returns : goal.call_at-returns
call_at-returns t c = record {
  comes =
      let p = program_in c.args.prepared.now in
      let w = windows_in c.args.windows.now in
      let m = marks_of p.theory c.args.scope.now in
      let formal = map gate_number c.in-Some.formal.now in
      let actual = map gate_number c.args.gates.now in
      let xs = map variable_of c.in-Some.vars.now in
      let terms = map term_of c.args.values.now in
      let b = behaviour_at p c.in-Some.body in
      let l = marks_of p.theory c.in-Ok-Some.inner.items in
      let has = subst (λ z. ArgumentsMayHave p.theory m z xs terms l) (ap (marks_of p.theory) c.new.ensures.items)
      (of_some (λ s. ArgumentsMayHave p.theory m (marks_of p.theory c.new.result.items) xs terms (marks_of p.theory s.items))
      c.in-Ok-Some.field-0 c.in-Ok-Some.inner c.in-Ok-Some.field-0-is c.in-Ok-Some.ensures.some) in
      call_comes p w c.args.budget c.args.calls m l c.args.number actual formal xs terms b
      (is_definition p c.requires.ready c.args.number formal xs c.in-Some.body c.in-Some.ensures.some) has
      c.requires.ready.executable c.enter-part.result c.relabel-relabelled.result c.under_rule.result
      (subst (λ s. BelowOutcome p w c.args.calls c.args.budget (marks_of p.theory s) b c.enter-part.result) c.deref.ensures.value
      c.enter-part.ensures.comes)
      (subst (λ z. Turns (map (under_relabelling z)) (λ j. 1 + j) c.enter-part.result c.relabel-relabelled.result)
      (ap (map relabelling_of) c.deref-in-Ok.ensures.value ∙ c.in-Ok.ensures.pairs) c.relabel-relabelled.ensures.relabel)
      c.under_rule.ensures.under;
}

pub value_choice_at-returns-in-Err : goal.value_choice_at-returns-in-Err
value_choice_at-returns-in-Err t c = record {
  comes =
      let p = program_in c.args.prepared.now in
      begun_stops p (windows_in c.args.windows.now) c.args.calls c.args.budget (marks_of p.theory c.args.scope.now)
      (record { number = c.args.x; sort = c.args.sort.0 }) (behaviour_at p c.args.body) c.in-Err.stop c.in-Err.ensures.nothing;
}

pub value_choice_at-loop-value-init : goal.value_choice_at-loop-value-init
value_choice_at-loop-value-init t c =
    let p = program_in c.args.prepared.now in
    no_slot p (windows_in c.args.windows.now) c.args.calls c.args.budget (marks_of p.theory c.args.scope.now)
    (record { number = c.args.x; sort = c.args.sort.0 }) (behaviour_at p c.args.body) c.in-Ok.begun c.in-Ok.ensures.nothing

pub value_choice_at-add_value-requires : goal.value_choice_at-add_value-requires
value_choice_at-add_value-requires t c = (
  omega (arith, c.decreases),
  (
    c.requires.ready,
    (
      c.requires.rows,
      is_listed (windows_in c.args.windows.now) c.args.sort.0 c.values_at-values.result.now c.values_at-values.ensures.values
          c.loop-value.value-index c.value-item.result c.loop-value-test.true c.value-item.is,
    ),
  ),
)

pub value_choice_at-returns-in-Err-add_value : goal.value_choice_at-returns-in-Err-add_value
value_choice_at-returns-in-Err-add_value t c = record {
  comes =
      c.in-Err-add_value.ensures.added (map Of (take c.loop-value.value-index c.values_at-values.result.now))
      (value_begins (windows_in c.args.windows.now) c.args.sort.0 c.values_at-values.result.now c.values_at-values.ensures.values
      c.loop-value.value-index c.value-item.result c.loop-value-test.true c.value-item.is) c.loop-value.invariant;
}

pub value_choice_at-loop-value-preserved : goal.value_choice_at-loop-value-preserved
value_choice_at-loop-value-preserved t c =
    let p = program_in c.args.prepared.now in
    let w = windows_in c.args.windows.now in
    let values = c.values_at-values.result.now in
    let i = c.loop-value.value-index in
    let more = c.in-Ok-add_value.more in
    subst (λ z. ExpandsEach p w c.args.calls (marks_of p.theory c.args.scope.now) (record { number = c.args.x; sort = c.args.sort.0 })
    (behaviour_at p c.args.body) z (map open_plan_of more.composites.items) more.spread)
    (with_next values i c.value-item.result c.loop-value-test.true c.value-item.is)
    (c.in-Ok-add_value.ensures.added (map Of (take i values))
    (value_begins w c.args.sort.0 values c.values_at-values.ensures.values i c.value-item.result c.loop-value-test.true c.value-item.is)
    c.loop-value.invariant)

pub value_choice_at-add_choice-requires : goal.value_choice_at-add_choice-requires
value_choice_at-add_choice-requires t c = (
  omega (arith, c.decreases),
  (
    c.requires.ready,
    (
      c.requires.rows,
      marked_choice (program_in c.args.prepared.now).theory (windows_in c.args.windows.now) c.args.sort.0
          (sym c.is_complete.ensures.complete ∙ c.if-is_complete.false),
    ),
  ),
)

pub value_choice_at-returns-then-is_complete : goal.value_choice_at-returns-then-is_complete
value_choice_at-returns-then-is_complete t c = record {
  comes =
      let p = program_in c.args.prepared.now in
      let w = windows_in c.args.windows.now in
      let m = marks_of p.theory c.args.scope.now in
      let x : Variable = record { number = c.args.x; sort = c.args.sort.0 } in
      let b = behaviour_at p c.args.body in
      let values = c.values_at-values.result.now in
      let all = c.loop-value.all in
      all_chosen p w c.args.calls c.args.budget m x b (map Of values) (Ok all)
      (complete_slots w c.args.sort.0 values c.values_at-values.ensures.values (sym c.is_complete.ensures.complete ∙ c.if-is_complete.true))
      (subst (λ z. ExpandsEach p w c.args.calls m x b (map Of z) (map open_plan_of all.composites.items) all.spread)
      (take_all c.loop-value.value-index values c.loop-value-test.false) c.loop-value.invariant);
}

pub value_choice_at-returns : goal.value_choice_at-returns
value_choice_at-returns t c = record {
  comes =
      let p = program_in c.args.prepared.now in
      let w = windows_in c.args.windows.now in
      let m = marks_of p.theory c.args.scope.now in
      let x : Variable = record { number = c.args.x; sort = c.args.sort.0 } in
      let b = behaviour_at p c.args.body in
      let values = c.values_at-values.result.now in
      let all = c.loop-value.all in
      let slots = marked_slots w c.args.sort.0 values c.values_at-values.ensures.values (sym c.is_complete.ensures.complete ∙ c.if-is_complete.false) in
      all_chosen p w c.args.calls c.args.budget m x b (map Of values ++ Mark ∷ []) c.add_choice.result slots
      (c.add_choice.ensures.added (map Of values) ([], append-nil (map Of values ++ Mark ∷ []) ∙ slots)
      (subst (λ z. ExpandsEach p w c.args.calls m x b (map Of z) (map open_plan_of all.composites.items) all.spread)
      (take_all c.loop-value.value-index values c.loop-value-test.false) c.loop-value.invariant));
}

pub expand_construct-returns-in-Exit : goal.expand_construct-returns-in-Exit
expand_construct-returns-in-Exit t c = record {
  comes =
      let p = program_in c.args.prepared.now in
      let w = windows_in c.args.windows.now in
      let n = c.args.calls in
      let k = c.args.budget in
      let m = marks_of p.theory c.args.scope.now in
      of_construct p w n k m c.exit_at.result _ _ c.in-Exit.is
      (subst (λ z. Outcome p w n k m (exit (map exit_value_of z)) c.exit_at.result) c.deref.ensures.value (c.exit_at.ensures.comes w n));
}

pub expand_construct-returns-in-Act : goal.expand_construct-returns-in-Act
expand_construct-returns-in-Act t c = record {
  comes =
      let p = program_in c.args.prepared.now in
      let w = windows_in c.args.windows.now in
      let n = c.args.calls in
      let k = c.args.budget in
      let m = marks_of p.theory c.args.scope.now in
      of_construct p w n k m c.action_at.result _ _ c.in-Act.is
      (of_action p w n k m c.action_at.result _ _ c.deref-in-Act.ensures.value _ _ _ (c.action_at.ensures.comes w n _ _));
}

pub expand_construct-returns-in-Let : goal.expand_construct-returns-in-Let
expand_construct-returns-in-Let t c = record {
  comes =
      let p = program_in c.args.prepared.now in
      let w = windows_in c.args.windows.now in
      let n = c.args.calls in
      let k = c.args.budget in
      let m = marks_of p.theory c.args.scope.now in
      of_construct p w n k m c.bound_at.result _ _ c.in-Let.is
      (subst (λ z. Outcome p w n k m (bound (map binding_of z) (behaviour_at p c.in-Let.body.0)) c.bound_at.result) c.deref-in-Let.ensures.value c.bound_at.ensures.comes);
}

pub expand_construct-returns-in-Gates : goal.expand_construct-returns-in-Gates
expand_construct-returns-in-Gates t c = record {
  comes =
      let p = program_in c.args.prepared.now in
      let w = windows_in c.args.windows.now in
      let n = c.args.calls in
      let k = c.args.budget in
      let m = marks_of p.theory c.args.scope.now in
      of_construct p w n k m c.gate_choice_at.result _ _ c.in-Gates.is
      (subst (λ z. Outcome p w n k m (gate_choice c.in-Gates.gate.0 (map gate_number z) (behaviour_at p c.in-Gates.body.0)) c.gate_choice_at.result) c.deref-in-Gates.ensures.value c.gate_choice_at.ensures.comes);
}

pub expand_construct-returns-in-Hide : goal.expand_construct-returns-in-Hide
expand_construct-returns-in-Hide t c = record {
  comes =
      let p = program_in c.args.prepared.now in
      let w = windows_in c.args.windows.now in
      let n = c.args.calls in
      let k = c.args.budget in
      let m = marks_of p.theory c.args.scope.now in
      of_construct p w n k m c.hide.result _ _ c.in-Hide.is
      (hide_comes p w n k m (map gate_number c.in-Hide.gates.items) (behaviour_at p c.in-Hide.body.0) c.expand_at-part.result c.hide.result (subst (λ z. Turns (map (plan_by_hiding (map gate_number z))) (λ j. 1 + j) c.expand_at-part.result c.hide.result) c.deref-in-Hide.ensures.value c.hide.ensures.hide) c.expand_at-part.ensures.comes);
}

pub expand_construct-returns-in-Call : goal.expand_construct-returns-in-Call
expand_construct-returns-in-Call t c = record {
  comes =
      let p = program_in c.args.prepared.now in
      let w = windows_in c.args.windows.now in
      let n = c.args.calls in
      let k = c.args.budget in
      let m = marks_of p.theory c.args.scope.now in
      of_construct p w n k m c.call_at.result _ _ c.in-Call.is
      (subst (λ z. Outcome p w n k m (call c.in-Call.process (map gate_number z) (map term_of c.in-Call.values.items)) c.call_at.result) c.deref-in-Call.ensures.value (subst (λ z. Outcome p w n k m (call c.in-Call.process (map gate_number c.deref-in-Call.result.now) (map term_of z)) c.call_at.result) c.deref-in-Call-2.ensures.value c.call_at.ensures.comes));
}

pub expand_construct-returns-in-Relabel : goal.expand_construct-returns-in-Relabel
expand_construct-returns-in-Relabel t c = record {
  comes =
      let p = program_in c.args.prepared.now in
      let w = windows_in c.args.windows.now in
      let n = c.args.calls in
      let k = c.args.budget in
      let m = marks_of p.theory c.args.scope.now in
      of_construct p w n k m c.relabel.result _ _ c.in-Relabel.is
      (relabel_comes p w n k m (map relabelling_of c.in-Relabel.pairs.items) (behaviour_at p c.in-Relabel.body.0) c.expand_at-part-in-Relabel.result c.relabel.result (subst (λ z. Turns (map (under_relabelling (map relabelling_of z))) (λ j. 1 + j) c.expand_at-part-in-Relabel.result c.relabel.result) c.deref-in-Relabel.ensures.value c.relabel.ensures.relabel) c.expand_at-part-in-Relabel.ensures.comes);
}
