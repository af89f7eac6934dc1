use Rattle.std.proofs.Common.{◌≡◌, ◌++◌, take}
use Rattle.std.specs.List.{flat_map}
use Rattle.sort_overloads.specs.Refused.{unknown_sort}
use Rattle.sort_overloads.specs.Views.{context_of}
use Rattle.static_processes.proofs.refusals.add_unknown_sorts.Given as goal

abbrev pub invariant-loop-sort : goal.invariant-loop-sort
invariant-loop-sort l = l.refusals.items ≡ l.initial.refusals.items ++ flat_map (unknown_sort (context_of l.scope)) (take l.sort-index l.sorts)
