use Rattle.std.proofs.Common.{◌∙◌, nat_eq, [], sym, subst, map}
use Rattle.spec_core.specs.Cover.{IsGroup}
use Rattle.spec_core.specs.Lists.{Each}
use Rattle.spec_core.specs.Orthogonality.{HasNoLooseVariables}
use Rattle.spec_core.specs.Theories.{equation_of, theory_of}
use Rattle.spec_core.proofs.Lists.{each_filter}
use Rattle.type_images.specs.Groups.{key_of}
use Rattle.cover_search.specs.Heads.{equations_at}
use Rattle.cover_groups.specs.Groups.{premises_of}
use Rattle.cover_groups.proofs.Heading.{group_if_ok, group_of}
use Rattle.cover_groups.proofs.group.group_lists.Goals as goal

pub lists_among-requires-clause-closed : goal.lists_among-requires-clause-closed
lists_among-requires-clause-closed c =
    let es = (theory_of c.args.algebra.now).equations in
    let k = key_of (equation_of c.args.equation.now) in
    subst (Each HasNoLooseVariables) (sym (c.in-Some.ensures ∙ c.requires.lefts k))
    (each_filter HasNoLooseVariables (λ e. nat_eq k (key_of e)) es c.requires.closed)

pub returns-in-None : goal.returns-in-None
returns-in-None c =
    let theory = theory_of c.args.algebra.now in
    let e = equation_of c.args.equation.now in
    subst (λ xs. IsGroup theory e.left (map premises_of xs)) (sym c.new.ensures.items)
    (group_of theory e.left [] [] (c.in-None.ensures ∙ c.requires.lefts (key_of e)) tt tt)

pub returns-in-Some : goal.returns-in-Some
returns-in-Some c =
    let theory = theory_of c.args.algebra.now in
    let e = equation_of c.args.equation.now in
    group_if_ok theory e.left (equations_at c.in-Some.keyed.now) (λ lists. map premises_of lists.items) c.lists_among.result
    (c.in-Some.ensures ∙ c.requires.lefts (key_of e)) c.lists_among.ensures.from c.lists_among.ensures.give
