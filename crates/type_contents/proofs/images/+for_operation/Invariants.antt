use Rattle.std.proofs.Common.{length}
use Rattle.type_contents.proofs.images.+for_operation.Given as goal

abbrev pub decreases-for_operation : goal.decreases-for_operation
decreases-for_operation l = length l.news.now
