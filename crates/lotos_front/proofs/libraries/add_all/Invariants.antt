use Rattle.std.proofs.Common.{◌≡◌, ◌++◌}
use Rattle.lotos_front.proofs.libraries.add_all.Given as goal

abbrev pub invariant-loop-one : goal.invariant-loop-one
invariant-loop-one l = l.all.items ≡ l.initial.all.items ++ l.yielded
