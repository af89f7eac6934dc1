use Rattle.std.proofs.Common.{rules, ◌≡◌, ◌<◌, ◌≤◌, ◌+◌, ◌-◌, length, arith, sym, subst, take, drop, ◌++◌}
use Rattle.spec_core.specs.Theories.{theory_of}
use Rattle.rewriter.specs.Index.{AreLinked}
use Rattle.rewriter.proofs.Calls.{counted}
use Rattle.rewriter.proofs.Links.{written}
use Rattle.rewriter.proofs.heads.FirstEquations.new.Goals as goal

pub link-requires-clause-linked : goal.link-requires-clause-linked
link-requires-clause-linked c =
    let t = theory_of c.args.algebra.now in
    let n : c.len-count.result ≡ length c.args.algebra.now.equations.items = search rules in
    let i : c.loop-i.i < c.len-count.result = search rules in
    let p : c.len-count.result - 1 - c.loop-i.i + 1 ≡ length t.equations - c.loop-i.i = omega (arith, n, i, counted c.args.algebra.now) in
    let a : c.deref_mut.result.now ≡ c.loop-i.first.items = search rules in
    let b : c.deref_mut-in-loop-i.result.now ≡ c.loop-i.next.items = search rules in
    subst (λ k. AreLinked t k c.deref_mut.result.now c.deref_mut-in-loop-i.result.now) (sym p)
    (subst (λ xs. AreLinked t (length t.equations - c.loop-i.i) xs c.deref_mut-in-loop-i.result.now) (sym a)
    (subst (λ xs. AreLinked t (length t.equations - c.loop-i.i) c.loop-i.first.items xs) (sym b) c.loop-i.invariant.linked))

pub loop-i-preserved : goal.loop-i-preserved
loop-i-preserved c =
    let t = theory_of c.args.algebra.now in
    let n : c.len-count.result ≡ length c.args.algebra.now.equations.items = search rules in
    let i : c.loop-i.i < c.len-count.result = search rules in
    let p : c.len-count.result - 1 - c.loop-i.i ≡ length t.equations - (c.loop-i.i + 1) = omega (arith, n, i, counted c.args.algebra.now) in
    let a : c.loop-i.first.len ≡ length c.loop-i.first.items = search rules in
    let b : c.loop-i.next.len ≡ length c.loop-i.next.items = search rules in
    let la : length c.loop-i.first.items ≡ length c.link.new.first =
    omega (arith, c.loop-i.invariant.linked.as_many, c.link.ensures.linked.as_many) in
    let lb : length c.loop-i.next.items ≡ length c.link.new.next =
    omega (arith, c.loop-i.invariant.linked.as_long, c.link.ensures.linked.as_long) in
    let wa = written c.link.new.first c.loop-i.first.items c.loop-i.first.len la a in
    let wb = written c.link.new.next c.loop-i.next.items c.loop-i.next.len lb b in
    record {
      linked =
          subst (λ xs. AreLinked t (length t.equations - (c.loop-i.i + 1)) xs
          (take c.loop-i.next.len (c.link.new.next ++ drop (length c.link.new.next) c.loop-i.next.items))) (sym wa)
          (subst (λ xs. AreLinked t (length t.equations - (c.loop-i.i + 1)) c.link.new.first xs) (sym wb)
          (subst (λ k. AreLinked t k c.link.new.first c.link.new.next) p c.link.ensures.linked));
    }

pub returns : goal.returns
returns c =
    let t = theory_of c.args.algebra.now in
    let past : length c.args.algebra.now.equations.items ≤ c.loop-i.i = search rules in
    let z : length t.equations - c.loop-i.i ≡ 0 = omega (arith, past, counted c.args.algebra.now) in
    record { indexed = subst (λ k. AreLinked t k c.loop-i.first.items c.loop-i.next.items) z c.loop-i.invariant.linked }
