use Rattle.type_contents.proofs.Keys.{distinct_items}
use Rattle.type_contents.proofs.item_table.ItemTable.new.Goals as goal

pub invariant_of-result : goal.invariant_of-result
invariant_of-result c = distinct_items c.new.result.keys c.new.ensures.unique
