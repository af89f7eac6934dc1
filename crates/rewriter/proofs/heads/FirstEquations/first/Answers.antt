use Rattle.std.proofs.Common.{rules, ◌≡◌, ◌<◌, ◌≤◌, length, slice_index_or, arith}
use Rattle.spec_core.specs.Theories.{theory_of}
use Rattle.rewriter.proofs.Calls.{indexed, by_default}
use Rattle.rewriter.proofs.heads.FirstEquations.first.Goals as goal

pub returns-then-place-len-clause-skipped : goal.returns-then-place-len-clause-skipped
returns-then-place-len-clause-skipped c = λ j l m hd.
    let b = c.requires.indexed.from_first c.args.op.0 j (omega arith) m hd in
    let there : c.args.op.0 < length c.args.self.now.first.items = search rules in
    let is : c.index.result.now ≡ slice_index_or c.args.self.now.first.items c.args.op.0 c.index.result.now = search rules in
    let e = indexed c.args.self.now.first.items c.args.op.0 c.index.result.now (length (theory_of c.args.algebra.now).equations) there is in
    omega (arith, l, b, e)

pub returns-else-place-len-clause-skipped : goal.returns-else-place-len-clause-skipped
returns-else-place-len-clause-skipped c = λ j l m hd.
    let b = c.requires.indexed.from_first c.args.op.0 j (omega arith) m hd in
    let out : length c.args.self.now.first.items ≤ c.args.op.0 = search rules in
    let e = by_default c.args.self.now.first.items c.args.op.0 (length (theory_of c.args.algebra.now).equations) out in
    omega (arith, m, b, e)
