use Rattle.std.specs.Prelude.{◌≡◌, map, take}
use Rattle.log_states.specs.Views.{pending_of}
use Rattle.log_states.proofs.pending.copies.Given as goal

abbrev pub invariant-loop-waiting : goal.invariant-loop-waiting
invariant-loop-waiting l = map pending_of l.copied.items ≡ map pending_of (take l.waiting-index l.all)
