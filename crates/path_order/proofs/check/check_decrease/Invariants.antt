use Rattle.std.proofs.Common.{IfSome, map, take}
use Rattle.path_order.specs.Mentioning.{AreDependents}
use Rattle.path_order.specs.Decrease.{AreRefusals}
use Rattle.spec_core.specs.Theories.{theory_of, equation_of}
use Rattle.path_order.proofs.check.check_decrease.Given as goal

abbrev pub invariant-loop-equation : goal.invariant-loop-equation
invariant-loop-equation l = record {
  refusals : AreRefusals (theory_of l.algebra) (map equation_of (take l.equation-index l.equation-items)) l.refusals.items;
  last : IfSome l.last (λ d. AreDependents (theory_of l.algebra) d.op.0 d.found.keys);
}
