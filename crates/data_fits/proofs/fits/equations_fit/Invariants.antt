use Rattle.std.proofs.Common.{take}
use Rattle.spec_core.specs.Lists.{Each}
use Rattle.spec_core.specs.Sorts.{EquationFits}
use Rattle.spec_core.specs.Theories.{equation_of, theory_of}
use Rattle.data_fits.proofs.fits.equations_fit.Given as goal

abbrev pub invariant-loop-equation : goal.invariant-loop-equation
invariant-loop-equation l = Each (λ e. EquationFits (theory_of l.algebra) (equation_of e)) (take l.equation-index l.all)
