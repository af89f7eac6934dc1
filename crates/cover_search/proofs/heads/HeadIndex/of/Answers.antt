use Rattle.std.proofs.Common.{◌++◌, ◌∷◌, [], if◌then◌else◌, ap, sym, ◌∙◌}
use Rattle.spec_core.specs.Theories.{equation_of}
use Rattle.cover_search.specs.Heads.{is_headed}
use Rattle.cover_search.proofs.Heading.{headed_next}
use Rattle.cover_search.proofs.heads.HeadIndex.of.Goals as goal

pub loop-equation-preserved : goal.loop-equation-preserved
loop-equation-preserved c = λ f.
    let e = equation_of c.equation-item.result in
    c.in_ok-add.ensures f
    ∙ ap (λ es. es ++ (if is_headed f e then e ∷ [] else [])) (c.loop-equation.invariant f)
    ∙ sym (headed_next f c.args.equations.now c.loop-equation.equation-index c.equation-item.result c.loop-equation-test.true c.equation-item.is)
