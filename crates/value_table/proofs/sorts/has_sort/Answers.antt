use Rattle.spec_core.specs.Theories.{operation_of, theory_of}
use Rattle.value_table.specs.Tables.{tree_at}
use Rattle.value_table.proofs.Spelled.{sort_decided}
use Rattle.value_table.proofs.sorts.has_sort.Goals as goal

pub returns-in-Some : goal.returns-in-Some
returns-in-Some c = record {
  decides =
      sort_decided (theory_of c.args.algebra.now) (tree_at c.args.table.now c.args.row) _ _ (operation_of c.in-Some.declared.now)
      c.args.sort.0 (c.requires.fit c.args.row c.requires.there) c.at.ensures.term c.in-Some.ensures.some;
}
