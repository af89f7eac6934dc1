use Rattle.std.proofs.Common.{◌-◌}
use Rattle.spec_core.specs.Theories.{theory_of}
use Rattle.equal_proof.proofs.Running.{grows_itself}
use Rattle.std.specs.List.{slice_get}
use Rattle.equal_proof.specs.Certificates.{IsInside}
use Rattle.equal_proof.specs.Pairs.{stack_of}
use Rattle.equal_proof.proofs.Inferred.{none_declared}
use Rattle.equal_proof.proofs.steps.infer_inside.Goals as goal

pub returns-in-None-clause-grown : goal.returns-in-None-clause-grown
returns-in-None-clause-grown c =
    grows_itself (theory_of c.args.algebra.now) c.args.table.now c.requires.fit

pub returns-in-None-clause-none : goal.returns-in-None-clause-none
returns-in-None-clause-none c =
    λ put h. none_declared (λ d. IsInside (theory_of c.args.algebra.now) d (stack_of c.args.table.now c.args.taken.now))
    (slice_get (theory_of c.args.algebra.now).operations c.args.op.0) c.in-None.ensures.none h.0
