use Rattle.spec_core.specs.Theories.{theory_of}
use Rattle.static_check.proofs.AllRead.{none_missing}
use Rattle.static_check.proofs.compile.compile.Goals as goal

pub unreachable-requires : goal.unreachable-requires
unreachable-requires c =
    none_missing (theory_of c.args.algebra.now) c.args.spec.now c.in_ok-program.field-0.program c.in_ok-program.field-0.refusals.items c.in_ok-program.ensures
    c.in-None.ensures.none c.in-None-program.is
