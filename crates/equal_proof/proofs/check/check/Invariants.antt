use Rattle.std.proofs.Common.{[], take}
use Rattle.spec_core.specs.Lists.{Each}
use Rattle.spec_core.specs.Theories.{theory_of}
use Rattle.value_table.specs.Tables.{AreFit}
use Rattle.equal_proof.specs.Certificates.{Runs}
use Rattle.equal_proof.specs.Pairs.{stack_of, IsPair}
use Rattle.equal_proof.proofs.check.check.Given as goal

abbrev pub invariant-loop-number : goal.invariant-loop-number
invariant-loop-number l = record {
  fit : AreFit (theory_of l.algebra) l.table;
  there : Each (IsPair l.table) l.stack.items;
  runs : Runs (theory_of l.algebra) (take l.number l.proof.steps.items) [] (stack_of l.table l.stack.items);
}
