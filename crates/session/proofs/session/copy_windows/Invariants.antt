use Rattle.std.proofs.Common.{◌≡◌, map, take}
use Rattle.session.specs.Starting.{content_of}
use Rattle.session.proofs.session.copy_windows.Given as goal

abbrev pub invariant-loop-window : goal.invariant-loop-window
invariant-loop-window l = map content_of l.all.items ≡ map content_of (take l.window-index l.windows)
