use Rattle.std.proofs.Common.{◌∙◌, ap, flat_map}
use Rattle.std.proofs.lemmas.Result.{IfOk-weaker}
use Rattle.spec_core.specs.Theories.{theory_of}
use Rattle.node_trees.specs.Shapes.{shape_of}
use Rattle.candidate_composites.specs.Known.{plans_in}
use Rattle.candidate_composites.proofs.Expanded.{expanded_are_kept}
use Rattle.candidate_composites.proofs.known.expanded_composites.Goals as goal

pub returns : goal.returns
returns c = record {
  expanded = IfOk-weaker c.composites.result _ _
      (λ _ e. e
      ∙ ap (flat_map plans_in) c.in_ok-all.ensures
      ∙ expanded_are_kept (theory_of c.args.algebra.now) (shape_of c.args.branch.now))
      c.composites.ensures.those;
}
