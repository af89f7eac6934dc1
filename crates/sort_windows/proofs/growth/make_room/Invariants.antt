use Rattle.std.proofs.Common.{ℕ, ◌≡◌, length}
use Rattle.sort_windows.specs.Found.{windows_of}
use Rattle.sort_windows.proofs.growth.make_room.Given as goal

abbrev pub invariant-loop : goal.invariant-loop
invariant-loop l = record {
  room : length l.windows.items ≡ l.counter;
  same : (s : ℕ) → windows_of l.windows.items s ≡ windows_of l.initial.windows.items s;
}
