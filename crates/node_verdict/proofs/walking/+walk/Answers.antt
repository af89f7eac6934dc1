use Rattle.std.proofs.Common.{rules, ◌≡◌, ◌∷◌, map, refl, sym, ap, subst, arith, false, true}
use Rattle.spec_core.specs.Code.{relabelling_of, synchronised_of, variable_of, binding_of}
use Rattle.spec_core.specs.Numbers.{gate_number}
use Rattle.spec_core.specs.Terms.{term_of}
use Rattle.rule_model.specs.Behaviours.{relabel}
use Rattle.spec_core.proofs.Lists.{each_right}
use Rattle.rule_model.specs.Derivations.{derivation_of, rel}
use Rattle.node_trees.specs.Rests.{slots_of}
use Rattle.rule_origins.specs.Parts.{behaviour_at}
use Rattle.symbolic_rules.specs.MarkedFields.{BindingsMayHave, ArgumentsMayHave}
use Rattle.node_values.specs.Scopes.{marks_of}
use Rattle.node_values.proofs.Finding.{of_some}
use Rattle.symbolic_rules.specs.Tables.{windows_in}
use Rattle.symbolic_actions.specs.Deciding.{is_within}
use Rattle.symbolic_actions.specs.Shows.{left_alone, right_alone, hidden_in, seen_in, before_end, handed_to, undisabled, ended, renamed_by}
use Rattle.match_code.specs.Prepared.{program_in}
use Rattle.node_verdict.specs.Choosing.{ChoosesValue}
use Rattle.node_verdict.specs.Found.{IsChosen, chosen_field}
use Rattle.node_verdict.specs.Judged.{Judged}
use Rattle.node_verdict.proofs.Rows.{over_judged, both_judged, value_judged, value_outside, let_judged, call_judged, call_stops, shown_of}
use Rattle.node_verdict.proofs.walking.+walk.Goals as goal

pub left_alone-returns-in-Some : goal.left_alone-returns-in-Some
left_alone-returns-in-Some t c = record {
  judged =
      let p = program_in c.args.prepared.now in
      let w = windows_in c.args.windows.now in
      let m = marks_of p.theory c.args.scope.now in
      over_judged p w c.args.budget c.requires.ready m (left_alone (synchronised_of c.in-Some.gates.now)) (behaviour_at p c.args.node) (behaviour_at p c.in-Some.left)
      (derivation_of c.args.part.now) c.walk-shown.result c.alone.result (_, c.in-Some.ensures.some) c.walk-shown.ensures.judged (c.alone.ensures.left p.theory w);
}

pub right_alone-returns-in-Some : goal.right_alone-returns-in-Some
right_alone-returns-in-Some t c = record {
  judged =
      let p = program_in c.args.prepared.now in
      let w = windows_in c.args.windows.now in
      let m = marks_of p.theory c.args.scope.now in
      over_judged p w c.args.budget c.requires.ready m (right_alone (synchronised_of c.in-Some.gates.now)) (behaviour_at p c.args.node) (behaviour_at p c.in-Some.right)
      (derivation_of c.args.part.now) c.walk-shown.result c.alone.result (_, c.in-Some.ensures.some) c.walk-shown.ensures.judged (c.alone.ensures.right p.theory w);
}

pub hidden-returns-in-Some : goal.hidden-returns-in-Some
hidden-returns-in-Some t c = record {
  judged =
      let p = program_in c.args.prepared.now in
      let w = windows_in c.args.windows.now in
      let m = marks_of p.theory c.args.scope.now in
      over_judged p w c.args.budget c.requires.ready m (hidden_in (map gate_number c.in-Some.gates.now)) (behaviour_at p c.args.node) (behaviour_at p c.in-Some.body)
      (derivation_of c.args.part.now) c.walk-shown.result c.hidden.result c.in-Some.ensures.some c.walk-shown.ensures.judged c.hidden.ensures.hidden;
}

pub passed-returns-in-Some : goal.passed-returns-in-Some
passed-returns-in-Some t c = record {
  judged =
      let p = program_in c.args.prepared.now in
      let w = windows_in c.args.windows.now in
      let m = marks_of p.theory c.args.scope.now in
      over_judged p w c.args.budget c.requires.ready m (seen_in (map gate_number c.in-Some.gates.now)) (behaviour_at p c.args.node) (behaviour_at p c.in-Some.body)
      (derivation_of c.args.part.now) c.walk-shown.result c.seen.result c.in-Some.ensures.some c.walk-shown.ensures.judged (c.seen.ensures.seen p.theory w);
}

pub before_end-returns-in-Some : goal.before_end-returns-in-Some
before_end-returns-in-Some t c = record {
  judged =
      let p = program_in c.args.prepared.now in
      let w = windows_in c.args.windows.now in
      let m = marks_of p.theory c.args.scope.now in
      over_judged p w c.args.budget c.requires.ready m before_end (behaviour_at p c.args.node) (behaviour_at p c.in-Some.left)
      (derivation_of c.args.part.now) c.walk-shown.result c.going_on.result (_, _, c.in-Some.ensures.some) c.walk-shown.ensures.judged (c.going_on.ensures.enabling p.theory w);
}

pub handed_on-returns-in-Some : goal.handed_on-returns-in-Some
handed_on-returns-in-Some t c = record {
  judged =
      let p = program_in c.args.prepared.now in
      let w = windows_in c.args.windows.now in
      let m = marks_of p.theory c.args.scope.now in
      over_judged p w c.args.budget c.requires.ready m (handed_to (map variable_of c.in-Some.vars.now)) (behaviour_at p c.args.node) (behaviour_at p c.in-Some.left)
      (derivation_of c.args.part.now) c.walk-shown.result c.handed.result (_, c.in-Some.ensures.some) c.walk-shown.ensures.judged c.handed.ensures.handed;
}

pub undisabled-returns-in-Some : goal.undisabled-returns-in-Some
undisabled-returns-in-Some t c = record {
  judged =
      let p = program_in c.args.prepared.now in
      let w = windows_in c.args.windows.now in
      let m = marks_of p.theory c.args.scope.now in
      over_judged p w c.args.budget c.requires.ready m undisabled (behaviour_at p c.args.node) (behaviour_at p c.in-Some.left)
      (derivation_of c.args.part.now) c.walk-shown.result c.going_on.result (_, c.in-Some.ensures.some) c.walk-shown.ensures.judged (c.going_on.ensures.disabling p.theory w);
}

pub ended-returns-in-Some : goal.ended-returns-in-Some
ended-returns-in-Some t c = record {
  judged =
      let p = program_in c.args.prepared.now in
      let w = windows_in c.args.windows.now in
      let m = marks_of p.theory c.args.scope.now in
      over_judged p w c.args.budget c.requires.ready m ended (behaviour_at p c.args.node) (behaviour_at p c.in-Some.left)
      (derivation_of c.args.part.now) c.walk-shown.result c.terminated.result (_, c.in-Some.ensures.some) c.walk-shown.ensures.judged (c.terminated.ensures.ended p.theory w);
}

pub renamed-returns-in-Some : goal.renamed-returns-in-Some
renamed-returns-in-Some t c = record {
  judged =
      let p = program_in c.args.prepared.now in
      let w = windows_in c.args.windows.now in
      let m = marks_of p.theory c.args.scope.now in
      over_judged p w c.args.budget c.requires.ready m (renamed_by (map relabelling_of c.in-Some.pairs.now)) (behaviour_at p c.args.node) (behaviour_at p c.in-Some.body)
      (derivation_of c.args.part.now) c.walk-shown.result c.relabelled.result c.in-Some.ensures.some c.walk-shown.ensures.judged (c.relabelled.ensures.renamed p.theory w);
}

pub together-returns : goal.together-returns
together-returns t c = record {
  judged =
      let p = program_in c.args.prepared.now in
      let w = windows_in c.args.windows.now in
      let m = marks_of p.theory c.args.scope.now in
      let x = behaviour_at p c.in-Some.left in
      let y = behaviour_at p c.in-Some.right in
      let d = derivation_of c.args.first.now in
      let e = derivation_of c.args.second.now in
      both_judged p w c.args.budget c.requires.ready m (behaviour_at p c.args.node) x y (synchronised_of c.in-Some.gates.now) d e _
      c.in-Some-2.one c.in-Some-3.other c.in_ok-both-in-Some-3.field-0 c.in-Some.ensures.some
      (shown_of p w c.args.budget m x d c.in_ok-walk-in-Some.field-0 c.in-Some-2.one c.in-Some-2.is c.in_ok-walk-in-Some.ensures.judged)
      (shown_of p w c.args.budget m y e c.in_ok-walk-in-Some-2.field-0 c.in-Some-3.other c.in-Some-3.is c.in_ok-walk-in-Some-2.ensures.judged)
      c.in_ok-both-in-Some-3.ensures.both refl;
}

pub value_chosen-returns-then-not-lies_within : goal.value_chosen-returns-then-not-lies_within
value_chosen-returns-then-not-lies_within t c = record {
  judged =
      let p = program_in c.args.prepared.now in
      let w = windows_in c.args.windows.now in
      let m = marks_of p.theory c.args.scope.now in
      let g = c.in-Some-2.given in
      let outside : is_within p.theory w (chosen_field g) ≡ false = search rules in
      value_outside p w c.args.budget c.requires.ready m (behaviour_at p c.args.node) (behaviour_at p c.in-Some.body)
      (record { number = c.in-Some.x; sort = c.in-Some.sort.0 }) c.args.slot.now g (derivation_of c.args.part.now) _ c.in-Some.ensures.some
      (of_some (IsChosen p.theory w c.args.slot.now c.in-Some.sort.0) c.in_ok-chosen-in-Some.field-0 g c.in-Some-2.is
      c.in_ok-chosen-in-Some.ensures.some) outside refl;
}

pub value_chosen-returns-in_ok-inner-in-Some-2 : goal.value_chosen-returns-in_ok-inner-in-Some-2
value_chosen-returns-in_ok-inner-in-Some-2 t c = record {
  judged =
      let p = program_in c.args.prepared.now in
      let w = windows_in c.args.windows.now in
      let m = marks_of p.theory c.args.scope.now in
      let g = c.in-Some-2.given in
      let within : is_within p.theory w (chosen_field g) ≡ true = search rules in
      let inner : c.deref.result.now ≡ (c.in-Some.x, g) ∷ c.args.scope.now = search rules in
      let d = derivation_of c.args.part.now in
      let body = behaviour_at p c.in-Some.body in
      value_judged p w c.args.budget c.requires.ready m (behaviour_at p c.args.node) body
      (record { number = c.in-Some.x; sort = c.in-Some.sort.0 }) c.args.slot.now g d c.walk.result c.in-Some.ensures.some
      (of_some (IsChosen p.theory w c.args.slot.now c.in-Some.sort.0) c.in_ok-chosen-in-Some.field-0 g c.in-Some-2.is
      c.in_ok-chosen-in-Some.ensures.some) within
      (subst (λ z. Judged p w c.args.budget (marks_of p.theory z) body d c.walk.result) inner c.walk.ensures.judged);
}

pub bound-returns-in-Some-2 : goal.bound-returns-in-Some-2
bound-returns-in-Some-2 t c = record {
  judged =
      let p = program_in c.args.prepared.now in
      let w = windows_in c.args.windows.now in
      let m = marks_of p.theory c.args.scope.now in
      let copied : c.in_ok-copied-in-Some.copied.items ≡ c.args.scope.now = c.in_ok-copied-in-Some.ensures.equal in
      let inner : c.deref.result.now ≡ c.in-Some-2.inner.items = search rules in
      let bindings = map binding_of c.in-Some.bindings.now in
      let body = behaviour_at p c.in-Some.body in
      let d = derivation_of c.args.part.now in
      let has = subst (λ z. BindingsMayHave p.theory m (marks_of p.theory z) bindings (marks_of p.theory c.in-Some-2.inner.items)) copied
      (of_some (λ s. BindingsMayHave p.theory m (marks_of p.theory c.in_ok-copied-in-Some.copied.items) bindings (marks_of p.theory s.items))
      c.in_ok-bind-in-Some.field-0 c.in-Some-2.inner c.in-Some-2.is c.in_ok-bind-in-Some.ensures.some) in
      let_judged p w c.args.budget c.requires.ready m (marks_of p.theory c.in-Some-2.inner.items) (behaviour_at p c.args.node) body bindings d
      c.walk.result c.in-Some.ensures.some has
      (subst (λ z. Judged p w c.args.budget (marks_of p.theory z) body d c.walk.result) inner c.walk.ensures.judged);
}

pub called-returns-in_err-bind_arguments-in-Some : goal.called-returns-in_err-bind_arguments-in-Some
called-returns-in_err-bind_arguments-in-Some t c = record {
  judged =
      let p = program_in c.args.prepared.now in
      let w = windows_in c.args.windows.now in
      let m = marks_of p.theory c.args.scope.now in
      call_stops p w c.args.budget c.requires.ready c.args.process c.in-Some.body (map gate_number c.in-Some.formal.now)
      (map variable_of c.in-Some.vars.now) c.in-Some.ensures.some m (map gate_number c.args.gates.now) (map term_of c.args.terms.now)
      (derivation_of c.args.part.now) c.from_residual.result
      c.in_err-bind_arguments-in-Some.field-0.0 (search rules) c.in_err-bind_arguments-in-Some.ensures.fault;
}

pub called-returns-in_ok-renamed-in-Some-2 : goal.called-returns-in_ok-renamed-in-Some-2
called-returns-in_ok-renamed-in-Some-2 t c = record {
  judged =
      let p = program_in c.args.prepared.now in
      let w = windows_in c.args.windows.now in
      let m = marks_of p.theory c.args.scope.now in
      let xs = map variable_of c.in-Some.vars.now in
      let terms = map term_of c.args.terms.now in
      let inner : c.deref.result.now ≡ c.in-Some-2.inner.items = search rules in
      let l = marks_of p.theory c.in-Some-2.inner.items in
      let body = behaviour_at p c.in-Some.body in
      let d = derivation_of c.args.part.now in
      let pairs = map relabelling_of c.deref-in-Some-2.result.now in
      let has = subst (λ z. ArgumentsMayHave p.theory m z xs terms l) (ap (marks_of p.theory) c.new-none.ensures.items)
      (of_some (λ s. ArgumentsMayHave p.theory m (marks_of p.theory c.new-none.result.items) xs terms (marks_of p.theory s.items))
      c.in_ok-bind_arguments-in-Some.field-0 c.in-Some-2.inner c.in-Some-2.is c.in_ok-bind_arguments-in-Some.ensures.some) in
      call_judged p w c.args.budget c.requires.ready c.args.process c.in-Some.body (map gate_number c.in-Some.formal.now) xs
      c.in-Some.ensures.some m l (map gate_number c.args.gates.now) terms pairs d c.walk_renamed.result (search rules) has
      (subst (λ z. Judged p w c.args.budget (marks_of p.theory z) (relabel pairs body) d c.walk_renamed.result) inner
      c.walk_renamed.ensures.judged);
}

pub together-walk-requires-in-Some-2 : goal.together-walk-requires-in-Some-2
together-walk-requires-in-Some-2 t c = (
  omega (arith, c.decreases),
  (
    c.requires.ready,
    each_right (ChoosesValue (program_in c.args.prepared.now).theory) (slots_of (derivation_of c.args.first.now)) (slots_of (derivation_of c.args.second.now))
        c.requires.values,
  ),
)

pub walk-returns-in-Int : goal.walk-returns-in-Int
walk-returns-in-Int t c = record {
  judged =
      let p = program_in c.args.prepared.now in
      let w = windows_in c.args.windows.now in
      let m = marks_of p.theory c.args.scope.now in
      subst (λ z. Judged p w c.args.budget m (behaviour_at p c.args.node) (derivation_of z) c.acts_inside.result) (sym c.in-Int.is)
      (c.acts_inside.ensures.judged w c.args.budget m);
}

pub walk_renamed-returns-in-Rel : goal.walk_renamed-returns-in-Rel
walk_renamed-returns-in-Rel t c = record {
  judged =
      let p = program_in c.args.prepared.now in
      let w = windows_in c.args.windows.now in
      let m = marks_of p.theory c.args.scope.now in
      let pairs = map relabelling_of c.args.pairs.now in
      let body = behaviour_at p c.args.node in
      let tree : derivation_of c.args.rules.now ≡ rel (derivation_of c.deref.result.now) = search rules in
      subst (λ z. Judged p w c.args.budget m (relabel pairs body) z c.relabelled.result) (sym tree)
      (over_judged p w c.args.budget c.requires.ready m (renamed_by pairs) (relabel pairs body) body (derivation_of c.deref.result.now)
      c.walk-shown.result c.relabelled.result refl c.walk-shown.ensures.judged (c.relabelled.ensures.renamed p.theory w));
}
