use Rattle.std.proofs.Common.{◌≡◌, IsFalse, length, map, take, ◌++◌}
use Rattle.spec_core.specs.Lists.{Each}
use Rattle.spec_core.specs.Numbers.{sort_number}
use Rattle.spec_core.specs.Theories.{theory_of}
use Rattle.sort_windows.specs.Found.{IsClosedFrom, AreWindows, windows_of}
use Rattle.sort_windows.proofs.filling.+fill_after.Given as goal

abbrev pub decreases-fill_after : goal.decreases-fill_after
decreases-fill_after l = length l.args.now

abbrev pub invariant-loop-place : goal.invariant-loop-place
invariant-loop-place l = record {
  windows : AreWindows (theory_of l.algebra) l.limit (windows_of l.windows.items);
  same : IsFalse l.grown → l.windows.items ≡ l.fn.windows.items;
  closed :
      IsFalse l.grown →
      Each (λ w. IsClosedFrom l.limit (windows_of l.windows.items) l.sort.0 (map sort_number l.rest) (l.front ++ w))
      (take l.place (windows_of l.windows.items l.first.0));
}
