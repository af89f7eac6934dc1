use Rattle.std.proofs.Common.{◌++◌, ◌∷◌, [], nat_eq, if◌then◌else◌, ap, sym, ◌∙◌}
use Rattle.spec_core.specs.Theories.{equation_of}
use Rattle.type_images.specs.Groups.{key_of}
use Rattle.cover_search.specs.Lefts.{keyed_at}
use Rattle.cover_search.proofs.Heading.{keyed_next}
use Rattle.cover_search.proofs.lefts.LeftIndex.of.Goals as goal

pub loop-equation-preserved : goal.loop-equation-preserved
loop-equation-preserved c = λ k.
    let e = equation_of c.equation-item.result in
    c.in_ok-add_under.ensures k
    ∙ ap (λ n. keyed_at c.loop-equation.index k ++ (if nat_eq k n then e ∷ [] else [])) c.key_of.ensures
    ∙ ap (λ es. es ++ (if nat_eq k (key_of e) then e ∷ [] else [])) (c.loop-equation.invariant k)
    ∙ sym (keyed_next k c.args.equations.now c.loop-equation.equation-index c.equation-item.result c.loop-equation-test.true c.equation-item.is)
