use Rattle.spec_core.specs.Theories.{theory_of}
use Rattle.sort_windows.specs.Found.{AreWindows, windows_of}
use Rattle.sort_windows.proofs.first_values.closed_windows.Given as goal

abbrev pub invariant-loop-turn : goal.invariant-loop-turn
invariant-loop-turn l = AreWindows (theory_of l.algebra) l.limit (windows_of l.windows.items)
