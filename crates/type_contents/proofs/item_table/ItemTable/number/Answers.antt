use Rattle.std.proofs.Common.{sym, ◌∙◌}
use Rattle.type_contents.proofs.Keys.{stored_item, same_key, distinct_items}
use Rattle.type_contents.proofs.item_table.ItemTable.number.Goals as goal

pub returns-clause-item : goal.returns-clause-item
returns-clause-item c = stored_item c.insert_full.new.self.keys c.in_ok-number.number c.in_ok-number.ensures.stored.0 c.args.item c.in_ok-number.ensures.stored.1 (sym (same_key c.args.item c.in_ok-number.ensures.stored.0) ∙ c.in_ok-number.ensures.stored.2)

pub invariant_of-self-2 : goal.invariant_of-self-2
invariant_of-self-2 c = distinct_items c.insert_full.new.self.keys c.insert_full.ensures.unique
