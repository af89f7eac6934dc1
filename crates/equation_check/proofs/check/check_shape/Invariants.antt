use Rattle.std.proofs.Common.{◌≡◌, map, take, vec_len}
use Rattle.equation_check.specs.Groups.{AreGroups, IsIndexed}
use Rattle.equation_check.specs.Shape.{AreRefusals}
use Rattle.spec_core.specs.Lists.{Each}
use Rattle.spec_core.specs.Theories.{theory_of, equation_of}
use Rattle.equation_check.proofs.check.check_shape.Given as goal

abbrev pub invariant-loop-equation : goal.invariant-loop-equation
invariant-loop-equation l = record {
  sized : vec_len l.groups ≡ l.count;
  indexed : Each IsIndexed l.groups.items;
  grouped : AreGroups (theory_of l.algebra) (map equation_of (take l.equation-index l.equation-items)) l.groups.items;
  refusals : AreRefusals (theory_of l.algebra) (map equation_of (take l.equation-index l.equation-items)) l.refusals.items;
}
