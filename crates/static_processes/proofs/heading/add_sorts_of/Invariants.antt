use Rattle.std.proofs.Common.{◌≡◌, ◌++◌, map, take}
use Rattle.std.specs.Prelude.{option_map}
use Rattle.spec_core.specs.Numbers.{sort_number}
use Rattle.sort_overloads.specs.Views.{context_of}
use Rattle.static_processes.specs.Headings.{known_sort}
use Rattle.static_processes.proofs.heading.add_sorts_of.Given as goal

abbrev pub invariant-loop-name : goal.invariant-loop-name
invariant-loop-name l = map (λ sort. option_map sort_number sort) l.all.items ≡ map (λ sort. option_map sort_number sort) l.initial.all.items
    ++ map (λ t. known_sort (context_of l.scope) l.declaration.sort) (take l._name-index l.declaration.names.items)
