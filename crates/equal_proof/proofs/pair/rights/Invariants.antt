use Rattle.std.proofs.Common.{◌≡◌, map, take}
use Rattle.spec_core.specs.Lists.{Each}
use Rattle.value_table.specs.Tables.{tree_at, IsRow}
use Rattle.equal_proof.specs.Certificates.{right_of}
use Rattle.equal_proof.specs.Pairs.{stack_of}
use Rattle.equal_proof.proofs.pair.rights.Given as goal

abbrev pub invariant-loop-pair : goal.invariant-loop-pair
invariant-loop-pair l = record {
  there : Each (IsRow l.table) l.rows.items;
  sides : map (tree_at l.table) l.rows.items ≡ map right_of (stack_of l.table (take l.pair-index l.pairs));
}
