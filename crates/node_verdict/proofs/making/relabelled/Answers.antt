use Rattle.std.proofs.Common.{rules, Some, Ok, map, refl}
use Rattle.spec_core.specs.Code.{relabelling_of}
use Rattle.symbolic_actions.specs.Shows.{over_part, renamed_by}
use Rattle.node_verdict.proofs.Filling.{made_some}
use Rattle.node_verdict.proofs.making.relabelled.Goals as goal

pub returns-in-Ok-Some : goal.returns-in-Ok-Some
returns-in-Ok-Some c = record {
  renamed = λ theory w.
      made_some (over_part theory w (renamed_by (map relabelling_of c.args.pairs.now))) c.args.part (Ok (Some c.relabelled.result)) c.in-Ok-Some.shown (Some c.relabelled.result) (search rules) refl
      (c.relabelled.ensures.renamed theory w);
}
