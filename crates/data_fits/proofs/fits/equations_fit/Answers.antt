use Rattle.std.proofs.Common.{refl}
use Rattle.spec_core.specs.Sorts.{EquationFits}
use Rattle.spec_core.specs.Theories.{equation_of, theory_of}
use Rattle.spec_core.proofs.Lists.{untrue, each-at, each-next, each-all, each-map}
use Rattle.data_fits.proofs.fits.equations_fit.Goals as goal

pub returns-then-not-equation_fits : goal.returns-then-not-equation_fits
returns-then-not-equation_fits c = (
  λ h. absurd (untrue h),
  λ h. c.if-not-equation_fits.ensures.1 (each-at (EquationFits (theory_of c.args.algebra.now)) equation_of c.args.all.now c.args.all.now
      c.loop-equation.equation-index c.equation-item.result refl c.loop-equation-test.true c.equation-item.is h),
)

pub loop-equation-preserved : goal.loop-equation-preserved
loop-equation-preserved c =
    each-next (λ e. EquationFits (theory_of c.args.algebra.now) (equation_of e)) c.args.all.now c.args.all.now c.loop-equation.equation-index
    c.equation-item.result refl c.loop-equation-test.true c.equation-item.is c.loop-equation.invariant
    (c.equation_fits.ensures.0 c.if-not-equation_fits.false)

pub returns : goal.returns
returns c = (
  λ h. each-map (EquationFits (theory_of c.args.algebra.now)) equation_of c.args.all.now
      (each-all _ c.args.all.now c.loop-equation.equation-index c.loop-equation-test.false c.loop-equation.invariant),
  λ h. refl,
)
