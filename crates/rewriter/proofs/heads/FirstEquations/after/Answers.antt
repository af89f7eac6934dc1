use Rattle.std.proofs.Common.{rules, ◌≡◌, ◌<◌, length, slice_index_or, arith, subst, sym}
use Rattle.spec_core.specs.Theories.{theory_of, Heads}
use Rattle.rewriter.specs.Steps.{bound_at, equation_at}
use Rattle.rewriter.proofs.Calls.{indexed}
use Rattle.rewriter.proofs.heads.FirstEquations.after.Goals as goal

pub returns-clause-heads : goal.returns-clause-heads
returns-clause-heads c = λ f l hd.
    let there : c.args.place < length c.args.self.now.next.items = omega (arith, c.requires.there, c.requires.indexed.as_long) in
    let is : c.index.result.now ≡ slice_index_or c.args.self.now.next.items c.args.place c.index.result.now = search rules in
    let e = indexed c.args.self.now.next.items c.args.place c.index.result.now 0 there is in
    let m : bound_at c.args.self.now.next.items c.args.place < length (theory_of c.args.algebra.now).equations = omega (arith, l, e) in
    subst (λ i. Heads f (equation_at (theory_of c.args.algebra.now) i)) (sym e)
    (c.requires.indexed.next_heads f c.args.place (omega arith) c.requires.there m hd)

pub returns-clause-skipped : goal.returns-clause-skipped
returns-clause-skipped c = λ f j a b m hd he.
    let there : c.args.place < length c.args.self.now.next.items = omega (arith, c.requires.there, c.requires.indexed.as_long) in
    let is : c.index.result.now ≡ slice_index_or c.args.self.now.next.items c.args.place c.index.result.now = search rules in
    let e = indexed c.args.self.now.next.items c.args.place c.index.result.now 0 there is in
    let l = c.requires.indexed.from_next f c.args.place j (omega arith) a m hd he in
    omega (arith, b, l, e)
