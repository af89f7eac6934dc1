use Rattle.std.proofs.Common.{map, ap, ◌∙◌}
use Rattle.spec_core.specs.Code.{relabelling_of}
use Rattle.rule_model.specs.Derivations.{derivation_of}
use Rattle.rule_origins.specs.Parts.{behaviour_at}
use Rattle.node_values.specs.Scopes.{scope_over}
use Rattle.symbolic_rules.specs.Tables.{windows_in}
use Rattle.match_code.specs.Prepared.{program_in}
use Rattle.node_verdict.proofs.Top.{source_judged}
use Rattle.node_verdict.proofs.origins.judge_source.Goals as goal

pub returns-in-Ok : goal.returns-in-Ok
returns-in-Ok c = record {
  judged =
      let p = program_in c.args.prepared.now in
      source_judged p (windows_in c.args.windows.now) c.args.budget c.args.values.now c.deref.result.now
      (map relabelling_of c.args.pairs.now) (behaviour_at p c.args.node) (derivation_of c.args.rules.now) c.judge_relabelled.result
      (c.deref.ensures.value ∙ c.in-Ok.ensures.known ∙ ap (scope_over c.args.values.now) c.new.ensures.items)
      c.judge_relabelled.ensures.judged;
}
