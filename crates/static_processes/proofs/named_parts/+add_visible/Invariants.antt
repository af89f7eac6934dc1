use Rattle.std.proofs.Common.{length}
use Rattle.static_processes.proofs.named_parts.+add_visible.Given as goal

abbrev pub decreases-add_visible : goal.decreases-add_visible
decreases-add_visible l = length l.around.now
