use Rattle.std.proofs.Common.{◌≡◌, ◌<◌, ◌∙◌, Some, None, length, map, get_or, ap, arith, sym, subst}
use Rattle.spec_core.specs.Lists.{Each}
use Rattle.spec_core.specs.Theories.{theory_of, equation_of}
use Rattle.equation_check.specs.Groups.{argument, places_at, seen, IsLeast}
use Rattle.equation_check.proofs.Indexing.{both_searched, first_found, none_found}
use Rattle.equation_check.proofs.groups.first_overlapped.Goals as goal

pub least_overlapped-requires-clause-within : goal.least_overlapped-requires-clause-within
least_overlapped-requires-clause-within c =
    subst (Each (λ place. place < length c.deref-equations.result.now)) (sym c.places-places.ensures)
    (subst (λ xs. Each (λ place. place < length xs) (places_at c.args.group.now (Some c.in-Some.op))) (sym c.deref-equations.ensures.value)
    (c.requires.indexed.within (Some c.in-Some.op)))

pub least_overlapped-requires-in-Some-clause-within : goal.least_overlapped-requires-in-Some-clause-within
least_overlapped-requires-in-Some-clause-within c =
    subst (Each (λ place. place < length c.deref-equations.result.now)) (sym c.deref.ensures.value)
    (subst (λ xs. Each (λ place. place < length xs) c.args.group.now.others.items) (sym c.deref-equations.ensures.value)
    (c.requires.indexed.within None))

pub returns-then-least-equations-clause-first : goal.returns-then-least-equations-clause-first
returns-then-least-equations-clause-first c =
    let theory = theory_of c.args.algebra.now in
    let group = c.args.group.now in
    let items = group.equations.items in
    let later = equation_of c.args.later.now in
    let same = c.deref-equations.ensures.value in
    let near = c.in_ok-near-in-Some.near in
    let least = c.in_ok-least-in-Some.least in
    let x = c.index-equations-least.result in
    let has : argument later.left ≡ Some c.in-Some.op = sym c.argument.ensures ∙ c.in-Some.is in
    let one : IsLeast theory (map seen items) later (places_at group (Some c.in-Some.op)) (length items) near =
    subst (λ ps. IsLeast theory (map seen items) later ps (length items) near) c.places-places.ensures
    (subst (λ xs. IsLeast theory (map seen xs) later c.places-places.result.now (length xs) near) same c.in_ok-near-in-Some.ensures) in
    let other : IsLeast theory (map seen items) later group.others.items near least =
    subst (λ ps. IsLeast theory (map seen items) later ps near least) c.deref.ensures.value
    (subst (λ xs. IsLeast theory (map seen xs) later c.deref.result.now near least) same c.in_ok-least-in-Some.ensures) in
    let found = both_searched theory group later c.in-Some.op near least c.requires.indexed has one other in
    let w : least < length items = subst (λ xs. least < length xs) same c.if-least-equations.true in
    first_found theory items later least x w (subst (λ xs. x ≡ get_or xs least x) same c.index-equations-least.is) (found.0 w) found.1

pub returns-else-least-equations-clause-none : goal.returns-else-least-equations-clause-none
returns-else-least-equations-clause-none c =
    let theory = theory_of c.args.algebra.now in
    let group = c.args.group.now in
    let items = group.equations.items in
    let later = equation_of c.args.later.now in
    let same = c.deref-equations.ensures.value in
    let near = c.in_ok-near-in-Some.near in
    let least = c.in_ok-least-in-Some.least in
    let has : argument later.left ≡ Some c.in-Some.op = sym c.argument.ensures ∙ c.in-Some.is in
    let one : IsLeast theory (map seen items) later (places_at group (Some c.in-Some.op)) (length items) near =
    subst (λ ps. IsLeast theory (map seen items) later ps (length items) near) c.places-places.ensures
    (subst (λ xs. IsLeast theory (map seen xs) later c.places-places.result.now (length xs) near) same c.in_ok-near-in-Some.ensures) in
    let other : IsLeast theory (map seen items) later group.others.items near least =
    subst (λ ps. IsLeast theory (map seen items) later ps near least) c.deref.ensures.value
    (subst (λ xs. IsLeast theory (map seen xs) later c.deref.result.now near least) same c.in_ok-least-in-Some.ensures) in
    let found = both_searched theory group later c.in-Some.op near least c.requires.indexed has one other in
    none_found theory group later least (omega (arith, c.if-least-equations.false, ap length same)) found.1
