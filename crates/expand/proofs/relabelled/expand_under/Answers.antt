use Rattle.std.proofs.Common.{map}
use Rattle.spec_core.specs.Code.{relabelling_of}
use Rattle.rule_origins.specs.Parts.{behaviour_at}
use Rattle.node_values.specs.Scopes.{marks_of}
use Rattle.symbolic_rules.specs.Tables.{windows_in}
use Rattle.match_code.specs.Prepared.{program_in}
use Rattle.expand.proofs.Rows.{relabel_comes}
use Rattle.expand.proofs.relabelled.expand_under.Goals as goal

pub returns : goal.returns
returns c = record {
  comes =
      let p = program_in c.args.prepared.now in
      relabel_comes p (windows_in c.args.windows.now) c.args.calls c.args.budget (marks_of p.theory c.args.scope.now)
      (map relabelling_of c.args.pairs.now) (behaviour_at p c.args.node) c.expand_at-part.result c.relabel.result
      c.relabel.ensures.relabel c.expand_at-part.ensures.comes;
}
