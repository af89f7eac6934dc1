use Rattle.std.proofs.Common.{◌∙◌, ap, flat_map}
use Rattle.std.proofs.lemmas.Result.{IfOk-weaker}
use Rattle.spec_core.specs.Theories.{theory_of}
use Rattle.node_trees.specs.Shapes.{shape_of}
use Rattle.candidate_composites.specs.Known.{plans_sought, sought_in}
use Rattle.candidate_composites.specs.Joining.{free}
use Rattle.candidate_composites.specs.Kept.{kept_plans}
use Rattle.candidate_composites.proofs.Kept.{kept_are_sought}
use Rattle.candidate_composites.proofs.known.sought_composites.Goals as goal

pub returns : goal.returns
returns c =
    let theory = theory_of c.args.algebra.now in
    let t = shape_of c.args.branch.now in
    let v = sought_in c.args.sought.now in
    record {
      sought = IfOk-weaker c.parts.result _ _
          (λ _ e. ap (flat_map (plans_sought v)) (e ∙ c.in_ok-all.ensures ∙ ap (λ l. kept_plans theory l t v free) c.listed_for-listed.ensures)
          ∙ kept_are_sought theory t v)
          c.parts.ensures.same;
    }
