use Rattle.std.proofs.Common.{refl, subst, map, IsTrue, arith}
use Rattle.spec_core.specs.Theories.{theory_of, equation_of}
use Rattle.spec_core.proofs.Lists.{each-at, untrue}
use Rattle.equation_faults.specs.Faults.{IsWellFormed}
use Rattle.equation_check.specs.Groups.{seen}
use Rattle.equation_check.proofs.Indexing.{least_bound, least_apart, least_here}
use Rattle.equation_check.proofs.groups.lowered.Goals as goal

pub are_apart-requires-clause-earlier_linear : goal.are_apart-requires-clause-earlier_linear
are_apart-requires-clause-earlier_linear c =
    (each-at (IsWellFormed (theory_of c.args.algebra.now)) seen c.args.equations.now c.args.equations.now c.args.place
    c.index-equations-place.result refl c.requires.within c.index-equations-place.is c.requires.group).linear

pub are_apart-requires-clause-closed : goal.are_apart-requires-clause-closed
are_apart-requires-clause-closed c =
    (each-at (IsWellFormed (theory_of c.args.algebra.now)) seen c.args.equations.now c.args.equations.now c.args.place
    c.index-equations-place.result refl c.requires.within c.index-equations-place.is c.requires.group).closed

pub returns-then-bound-place : goal.returns-then-bound-place
returns-then-bound-place c =
    least_bound (theory_of c.args.algebra.now) (map seen c.args.equations.now) (equation_of c.args.later.now) c.args.place c.args.bound
    c.if-bound-place.true

pub returns-then-branch : goal.returns-then-branch
returns-then-branch c =
    least_apart (theory_of c.args.algebra.now) c.args.equations.now (equation_of c.args.later.now) c.args.place c.args.bound
    c.index-equations-place.result c.requires.within c.index-equations-place.is (c.in_ok-are_apart.ensures.decides.0 c.if-branch.true)

pub returns : goal.returns
returns c =
    least_here (theory_of c.args.algebra.now) c.args.equations.now (equation_of c.args.later.now) c.args.place c.args.bound
    c.index-equations-place.result c.requires.within c.index-equations-place.is (omega (arith, c.if-bound-place.false))
    (λ a. untrue (subst IsTrue c.if-branch.false (c.in_ok-are_apart.ensures.decides.1 a)))
