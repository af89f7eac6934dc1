use Rattle.std.proofs.Common.{map, subst, [], ◌∷◌}
use Rattle.spec_core.specs.Code.{exit_value_of}
use Rattle.spec_core.proofs.Options.{if_none_at}
use Rattle.rule_model.specs.Actions.{ends}
use Rattle.symbolic_plans.specs.Plans.{field_of, termination}
use Rattle.node_values.specs.Found.{ExitOpen}
use Rattle.node_values.specs.Scopes.{marks_of}
use Rattle.node_values.proofs.Finding.{of_some}
use Rattle.match_code.specs.Prepared.{program_in}
use Rattle.expand.specs.Joins.{Sized}
use Rattle.expand.proofs.Rows.{exit_comes, no_exit_comes}
use Rattle.expand.proofs.leaves.exit_at.Goals as goal

pub returns-in-Ok-None : goal.returns-in-Ok-None
returns-in-Ok-None c = record {
  comes = λ w n.
      no_exit_comes (program_in c.args.prepared.now) w n c.args.budget (marks_of (program_in c.args.prepared.now).theory c.args.scope.now)
      (map exit_value_of c.args.fields.now) c.nothing.result
      (if_none_at c.in-Ok-None.field-0 c.in-Ok-None.field-0-is c.in-Ok-None.ensures.none) c.nothing.ensures.nothing;
}

pub returns-in-Ok : goal.returns-in-Ok
returns-in-Ok c = record {
  comes = λ w n.
      let theory = (program_in c.args.prepared.now).theory in
      let m = marks_of theory c.args.scope.now in
      let fields = map exit_value_of c.args.fields.now in
      let cs = map field_of c.in-Ok-Some.columns.items in
      exit_comes (program_in c.args.prepared.now) w n c.args.budget m fields cs c.single.result
      (of_some (λ columns. ExitOpen theory m fields (map field_of columns.items)) c.in-Ok-Some.field-0 c.in-Ok-Some.columns
      c.in-Ok-Some.field-0-is c.in-Ok-Some.ensures.some)
      (subst (λ z. Sized (record { kind = ends; fields = cs; plan = termination z } ∷ []) 1 c.single.result) c.in-Ok.ensures
      c.single.ensures.single);
}
