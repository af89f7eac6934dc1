use Rattle.std.proofs.Common.{◌∙◌, ap, map, rules}
use Rattle.spec_core.specs.Theories.{theory_of}
use Rattle.node_trees.specs.Shapes.{shape_of}
use Rattle.candidate_composites.specs.Known.{made}
use Rattle.candidate_composites.proofs.Whole.{expanded_are_all}
use Rattle.candidates.proofs.composites.listed.Goals as goal

pub returns : goal.returns
returns c = record {
  listed =
      ap (map made) c.in_ok-all.ensures.expanded
      ∙ expanded_are_all (theory_of c.args.algebra.now) (shape_of c.args.tree.now) (search rules);
}
