use Rattle.std.proofs.Common.{◌≡◌, map}
use Rattle.lotos_front.specs.Libraries.{in_line_0}
use Rattle.lotos_front.proofs.libraries.all_in_line_0.Given as goal

abbrev pub invariant-loop-token : goal.invariant-loop-token
invariant-loop-token l = l.all.items ≡ map in_line_0 l.yielded
