use Rattle.std.proofs.Common.{◌+◌, IsTrue, map, take, drop, refl, sym, subst}
use Rattle.spec_core.proofs.Lists.{each-at, untrue, each_push, each_implied, map_next}
use Rattle.spec_core.specs.Lists.{Each}
use Rattle.spec_core.specs.Orthogonality.{AreApart}
use Rattle.spec_core.specs.Theories.{theory_of, equation_of}
use Rattle.equation_check.specs.Groups.{seen}
use Rattle.equation_check.proofs.Grouping.{seen_parted}
use Rattle.equation_faults.specs.Faults.{IsWellFormed}
use Rattle.equation_check.proofs.groups.first_of_all.Goals as goal

pub are_apart-requires-clause-earlier_linear : goal.are_apart-requires-clause-earlier_linear
are_apart-requires-clause-earlier_linear c =
    (each-at (IsWellFormed (theory_of c.args.algebra.now)) seen c.args.equations.now c.args.equations.now c.loop-earlier.earlier-index c.earlier-item.result
    refl c.loop-earlier-test.true c.earlier-item.is c.requires.group).linear

pub are_apart-requires-clause-closed : goal.are_apart-requires-clause-closed
are_apart-requires-clause-closed c =
    (each-at (IsWellFormed (theory_of c.args.algebra.now)) seen c.args.equations.now c.args.equations.now c.loop-earlier.earlier-index c.earlier-item.result
    refl c.loop-earlier-test.true c.earlier-item.is c.requires.group).closed

pub returns-then-not-branch-clause-first : goal.returns-then-not-branch-clause-first
returns-then-not-branch-clause-first c =
    let theory = theory_of c.args.algebra.now in
    let e = equation_of c.args.later.now in
    let group = c.args.equations.now in
    let i = c.loop-earlier.earlier-index in
    record {
      before = map seen (take i group);
      behind = map seen (drop (i + 1) group);
      parts = seen_parted group i c.earlier-item.result c.loop-earlier-test.true c.earlier-item.is;
      holds = λ a. untrue (subst IsTrue c.if-not-branch.true (c.in_ok-are_apart.ensures.decides.1 a));
      none_before = each_implied (λ d. AreApart theory d e) (λ d. (AreApart theory d e → ⊥) → ⊥) (map seen (take i group)) (λ d a k. k a)
          c.loop-earlier.invariant;
    }

pub loop-earlier-preserved : goal.loop-earlier-preserved
loop-earlier-preserved c =
    let theory = theory_of c.args.algebra.now in
    let e = equation_of c.args.later.now in
    let group = c.args.equations.now in
    let i = c.loop-earlier.earlier-index in
    let apart : AreApart theory (seen c.earlier-item.result) e = c.in_ok-are_apart.ensures.decides.0 (subst IsTrue (sym c.if-not-branch.false) refl) in
    subst (Each (λ d. AreApart theory d e)) (sym (map_next seen group i c.earlier-item.result c.loop-earlier-test.true c.earlier-item.is))
    (each_push (λ d. AreApart theory d e) (map seen (take i group)) (seen c.earlier-item.result) c.loop-earlier.invariant apart)
