use Rattle.std.proofs.Common.{length}
use Rattle.type_copies.proofs.copy.+has_formal_name.Given as goal

abbrev pub decreases-has_formal_name : goal.decreases-has_formal_name
decreases-has_formal_name l = length l.items.now
