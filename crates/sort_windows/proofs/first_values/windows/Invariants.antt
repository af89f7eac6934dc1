use Rattle.std.proofs.Common.{◌≡◌, length}
use Rattle.spec_core.specs.Theories.{theory_of}
use Rattle.sort_windows.specs.Found.{AreBySorts}
use Rattle.sort_windows.proofs.first_values.windows.Given as goal

abbrev pub invariant-loop-number : goal.invariant-loop-number
invariant-loop-number l = (length l.all.items ≡ l.number) × AreBySorts (theory_of l.algebra) l.k l.all.items
