use Rattle.std.proofs.Common.{◌++◌, ◌∙◌, [], ap, map}
use Rattle.spec_core.specs.Theories.{theory_of}
use Rattle.node_trees.specs.Shapes.{shape_of}
use Rattle.candidate_composites.specs.Known.{found_of, sought_in}
use Rattle.candidate_composites.specs.Contexts.{all_through}
use Rattle.candidate_composites.specs.Joining.{free}
use Rattle.candidate_composites.specs.Kept.{kept_plans}
use Rattle.candidate_composites.proofs.Contexts.{rises_whole}
use Rattle.candidate_composites.proofs.known.kept_found.Goals as goal

pub returns : goal.returns
returns c =
    let kept = kept_plans (theory_of c.args.algebra.now) c.args.listed (shape_of c.args.branch.now) (sought_in c.args.sought.now) free in
    c.in_ok-put_kept.ensures ∙ ap (λ l. map found_of l ++ all_through [] kept) c.new-all.ensures.items ∙ rises_whole kept
