use Rattle.std.proofs.Common.{map}
use Rattle.spec_core.specs.Code.{relabelling_of}
use Rattle.rule_model.specs.Substitution.{tidied}
use Rattle.rule_origins.specs.Parts.{behaviour_at}
use Rattle.node_values.specs.Scopes.{marks_of}
use Rattle.node_trees.specs.Origins.{relabelled_by}
use Rattle.symbolic_rules.specs.Tables.{windows_in}
use Rattle.node_trees.proofs.Tidying.{none_relabelled, some_relabelled}
use Rattle.match_code.specs.Prepared.{program_in}
use Rattle.expand.proofs.Walking.{of_equal}
use Rattle.expand.proofs.relabelled.expand_relabelled.Goals as goal

pub returns-in-empty : goal.returns-in-empty
returns-in-empty c = record {
  comes =
      let p = program_in c.args.prepared.now in
      let b = behaviour_at p c.args.node in
      of_equal p (windows_in c.args.windows.now) c.args.calls c.args.budget (marks_of p.theory c.args.scope.now) c.expand_at.result
      (relabelled_by (map relabelling_of c.args.pairs.now) b) b (none_relabelled c.args.pairs.now b c.in-empty.len_below)
      c.expand_at.ensures.comes;
}

pub returns-in-len1-up : goal.returns-in-len1-up
returns-in-len1-up c = record {
  comes =
      let p = program_in c.args.prepared.now in
      let b = behaviour_at p c.args.node in
      of_equal p (windows_in c.args.windows.now) c.args.calls c.args.budget (marks_of p.theory c.args.scope.now) c.expand_tidied.result
      (relabelled_by (map relabelling_of c.args.pairs.now) b) (tidied (map relabelling_of c.args.pairs.now) b)
      (some_relabelled c.args.pairs.now b c.in-len1-up.len_at_least) c.expand_tidied.ensures.comes;
}
