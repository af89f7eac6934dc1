use Rattle.std.proofs.Common.{subst}
use Rattle.value_table.specs.Tables.{IsTable}
use Rattle.value_table.proofs.Tables.{same_decides}
use Rattle.value_table.proofs.table.TermTable.same.Goals as goal

pub returns : goal.returns
returns c = record {
  decides = same_decides c.args.self.now c.args.left c.args.right (subst IsTable c.self.view_is c.self.invariant) c.requires.left
      c.requires.right;
}
