use Rattle.std.proofs.Common.{◌≡◌, map, take}
use Rattle.spec_core.specs.Lists.{Each}
use Rattle.spec_core.specs.Terms.{term_of, terms}
use Rattle.spec_core.specs.Theories.{theory_of}
use Rattle.value_table.specs.Tables.{tree_at, IsRow}
use Rattle.equal_proof.specs.Pairs.{instances_at, Grows}
use Rattle.equal_proof.proofs.Weights.{weight, weights}
use Rattle.equal_proof.proofs.instances.+instances.Given as goal

abbrev pub invariant-all_instances-loop-term : goal.invariant-all_instances-loop-term
invariant-all_instances-loop-term l = record {
  grown : Grows (theory_of l.algebra) l.initial.table l.table;
  there : Each (IsRow l.table) l.made.items;
  trees : map (tree_at l.table) l.made.items ≡ instances_at l.initial.table l.variables l.rows (take l.term-index l.all);
}

abbrev pub decreases-instance : goal.decreases-instance
decreases-instance l = weight (term_of l.term.now)

abbrev pub decreases-all_instances : goal.decreases-all_instances
decreases-all_instances l = weights (terms (map term_of l.all.now))
