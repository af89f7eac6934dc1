use Rattle.std.proofs.Common.{length}
use Rattle.type_contents.proofs.order.+has_item.Given as goal

abbrev pub decreases-has_item : goal.decreases-has_item
decreases-has_item l = length l.items.now
