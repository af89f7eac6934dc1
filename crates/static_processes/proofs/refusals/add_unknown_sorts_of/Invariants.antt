use Rattle.std.proofs.Common.{◌≡◌, ◌++◌, take}
use Rattle.std.specs.List.{flat_map}
use Rattle.sort_overloads.specs.Refused.{unknown_sort}
use Rattle.sort_overloads.specs.Views.{context_of}
use Rattle.static_processes.proofs.refusals.add_unknown_sorts_of.Given as goal

abbrev pub invariant-loop-declaration : goal.invariant-loop-declaration
invariant-loop-declaration l = l.refusals.items
    ≡ l.initial.refusals.items ++ flat_map (λ d. unknown_sort (context_of l.scope) d.sort) (take l.declaration-index l.declared)
