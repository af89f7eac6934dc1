use Rattle.std.proofs.Common.{◌-◌}
use Rattle.spec_core.specs.Theories.{theory_of, equation_of}
use Rattle.equal_proof.proofs.Running.{grows_itself}
use Rattle.std.proofs.lemmas.Option.{IfSome_then}
use Rattle.std.proofs.lemmas.Result.{IfOk-weaker}
use Rattle.std.specs.List.{slice_get}
use Rattle.spec_core.specs.Orthogonality.{HasNoLooseVariables}
use Rattle.spec_core.specs.Sorts.{EquationFits}
use Rattle.spec_core.proofs.Lists.{each_slice_get}
use Rattle.value_table.proofs.Spelled.{on_declared}
use Rattle.equal_proof.specs.Certificates.{Sides, IsInstance}
use Rattle.equal_proof.specs.Pairs.{sides_at, stack_of}
use Rattle.equal_proof.proofs.Inferred.{none_declared, none_then, on_some}
use Rattle.equal_proof.proofs.steps.infer_use.Goals as goal

pub use_equation-requires-clause-equation : goal.use_equation-requires-clause-equation
use_equation-requires-clause-equation c =
    each_slice_get (EquationFits (theory_of c.args.algebra.now))
    (theory_of c.args.algebra.now).equations c.args.number _ c.requires.executable.fits.equations c.in-Some.ensures.some

pub use_equation-requires-clause-closed : goal.use_equation-requires-clause-closed
use_equation-requires-clause-closed c =
    each_slice_get HasNoLooseVariables (theory_of c.args.algebra.now).equations c.args.number _ c.requires.executable.orthogonal.closed
    c.in-Some.ensures.some

pub returns-in-None-clause-grown : goal.returns-in-None-clause-grown
returns-in-None-clause-grown c =
    grows_itself (theory_of c.args.algebra.now) c.args.table.now c.requires.fit

pub returns-in-None-clause-none : goal.returns-in-None-clause-none
returns-in-None-clause-none c =
    λ put h. none_declared (λ e. IsInstance (theory_of c.args.algebra.now) e c.args.values.now
    (stack_of c.args.table.now c.args.taken.now) put)
    (slice_get (theory_of c.args.algebra.now).equations c.args.number) c.in-None.ensures.none h

pub returns-in-Some-clause-some : goal.returns-in-Some-clause-some
returns-in-Some-clause-some c =
    IfOk-weaker c.use_equation.result _ _
    (λ found h. IfSome_then found h (λ pair k.
    on_some (λ e. IsInstance (theory_of c.args.algebra.now) e c.args.values.now (stack_of c.args.table.now c.args.taken.now)
    (sides_at c.use_equation.new.table pair))
    (slice_get (theory_of c.args.algebra.now).equations c.args.number) (equation_of c.in-Some.equation.now) c.in-Some.ensures.some k))
    c.use_equation.ensures.some

pub returns-in-Some-clause-none : goal.returns-in-Some-clause-none
returns-in-Some-clause-none c =
    IfOk-weaker c.use_equation.result _ _
    (λ found h. none_then found h (λ (k : (put : Sides) →
    IsInstance (theory_of c.args.algebra.now) (equation_of c.in-Some.equation.now) c.args.values.now
    (stack_of c.args.table.now c.args.taken.now) put → ⊥) put o.
    k put (on_declared (λ e. IsInstance (theory_of c.args.algebra.now) e c.args.values.now (stack_of c.args.table.now c.args.taken.now) put)
    (slice_get (theory_of c.args.algebra.now).equations c.args.number) (equation_of c.in-Some.equation.now) c.in-Some.ensures.some o)))
    c.use_equation.ensures.none
