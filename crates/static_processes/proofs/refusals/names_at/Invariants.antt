use Rattle.std.proofs.Common.{◌≡◌, map, take}
use Rattle.static_processes.specs.Views.{entry_of}
use Rattle.static_processes.specs.WhereParts.{names_at}
use Rattle.static_processes.proofs.refusals.names_at.Given as goal

abbrev pub invariant-loop-number : goal.invariant-loop-number
invariant-loop-number l = map (λ t. t.now) l.names.items ≡ names_at (map entry_of l.table) (take l.number-index l.numbers)
