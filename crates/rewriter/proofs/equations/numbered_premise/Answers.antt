use Rattle.std.proofs.Common.{rules, ◌≡◌, ◌+◌, ◌<◌, length, drop, slice_index_or, ap, arith}
use Rattle.std.proofs.lemmas.List.{length-map}
use Rattle.spec_core.specs.Terms.{term_of}
use Rattle.spec_core.specs.Theories.{theory_of, premise_of}
use Rattle.rewriter.specs.Steps.{equation_at}
use Rattle.rewriter.proofs.Calls.{premise_at, side_occurs, tight_at}
use Rattle.rewriter.proofs.equations.numbered_premise.Goals as goal

pub returns-clause-asked : goal.returns-clause-asked
returns-clause-asked c =
    let t = theory_of c.args.algebra.now in
    let e = c.numbered.result.now in
    let r = c.index.result.now in
    let is : r ≡ slice_index_or e.premises.items c.args.next r = search rules in
    let size = ap (λ d. length d.premises) c.numbered.ensures.same in
    let few : c.args.next < length e.premises.items =
    omega (arith, c.requires.premise, size, length-map e.premises.items premise_of) in
    premise_at (equation_at t c.args.place) e c.args.next r c.numbered.ensures.same few is

pub returns-clause-closed : goal.returns-clause-closed
returns-clause-closed c = λ x o.
    let t = theory_of c.args.algebra.now in
    let r = c.index.result.now in
    (tight_at t c.requires.executable c.args.place c.requires.there).premises x
    (side_occurs x c.args.next (term_of r.0) (term_of r.1) (drop (c.args.next + 1) (equation_at t c.args.place).premises)
    (equation_at t c.args.place).premises (returns-clause-asked c) o)
