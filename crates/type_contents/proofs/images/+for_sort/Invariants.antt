use Rattle.std.proofs.Common.{length}
use Rattle.type_contents.proofs.images.+for_sort.Given as goal

abbrev pub decreases-for_sort : goal.decreases-for_sort
decreases-for_sort l = length l.news.now
