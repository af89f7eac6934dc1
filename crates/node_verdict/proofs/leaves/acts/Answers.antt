use Rattle.std.proofs.Common.{rules, ◌≡◌, map, refl, subst}
use Rattle.spec_core.specs.Code.{action_field_of, guard_of}
use Rattle.spec_core.proofs.Booleans.{test_fails}
use Rattle.rule_origins.specs.Parts.{behaviour_at}
use Rattle.symbolic_rules.specs.MarkedTerms.{GuardMayHold}
use Rattle.symbolic_rules.specs.MarkedFields.{FieldsMayHave}
use Rattle.node_values.specs.Scopes.{marks_of}
use Rattle.node_values.proofs.Finding.{of_some}
use Rattle.symbolic_rules.specs.Tables.{windows_in}
use Rattle.symbolic_actions.specs.Models.{marked_field_of}
use Rattle.match_code.specs.Prepared.{program_in}
use Rattle.node_verdict.proofs.Rows.{acts_failing}
use Rattle.node_verdict.proofs.leaves.acts.Goals as goal

pub returns-else-holds : goal.returns-else-holds
returns-else-holds c = record {
  judged =
      let p = program_in c.args.prepared.now in
      let w = windows_in c.args.windows.now in
      let m = marks_of p.theory c.args.scope.now in
      let fields = map action_field_of c.in-Some.fields.now in
      let inner : c.in_ok-inner-in-Some.inner.items ≡ c.args.scope.now = c.in_ok-inner-in-Some.ensures.equal in
      let bound : c.deref.result.now ≡ c.in-Some-2.filled.scope.items = search rules in
      let l = marks_of p.theory c.in-Some-2.filled.scope.items in
      let gs = map marked_field_of c.in-Some-2.filled.fields.items in
      let has = subst (λ z. FieldsMayHave p.theory w m (marks_of p.theory z) fields c.args.slots.now gs l) inner
      (of_some (λ x. FieldsMayHave p.theory w m (marks_of p.theory c.in_ok-inner-in-Some.inner.items) fields c.args.slots.now
      (map marked_field_of x.fields.items) (marks_of p.theory x.scope.items)) c.in_ok-filled_fields-in-Some.field-0 c.in-Some-2.filled
      c.in-Some-2.is c.in_ok-filled_fields-in-Some.ensures.some) in
      let guard = guard_of c.in-Some.guard.now in
      let fails = subst (λ z. GuardMayHold p.theory (marks_of p.theory z) guard → ⊥) bound
      (test_fails c.in_ok-holds-in-Some-2.holds c.if-holds.false c.in_ok-holds-in-Some-2.ensures.decides) in
      acts_failing p w c.args.budget c.requires.ready m l (behaviour_at p c.args.node) _ c.in-Some.gate.0 fields guard c.args.slots.now gs _
      c.in-Some.ensures.some has fails refl;
}
