use Rattle.std.proofs.Common.{take, get_or, map, sym, subst, ◌∷◌, []}
use Rattle.std.proofs.lemmas.List.{take_more}
use Rattle.spec_core.specs.Theories.{theory_of, equation_of}
use Rattle.equation_check.specs.Groups.{seen, IsLeast}
use Rattle.equation_check.proofs.Indexing.{least_joined}
use Rattle.equation_check.proofs.groups.least_overlapped.Goals as goal

pub loop-place-preserved : goal.loop-place-preserved
loop-place-preserved c =
    let theory = theory_of c.args.algebra.now in
    let es = map seen c.args.equations.now in
    let later = equation_of c.args.later.now in
    let places = c.args.places.now in
    let i = c.loop-place.place-index in
    subst (λ xs. IsLeast theory es later xs c.args.bound c.in_ok-least.least) (sym (take_more places i 0 c.loop-place-test.true))
    (least_joined theory es later (take i places) (get_or places i 0 ∷ []) c.args.bound c.loop-place.least c.in_ok-least.least
    c.loop-place.invariant c.in_ok-least.ensures)
