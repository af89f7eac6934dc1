use Rattle.std.proofs.Common.{◌≡◌, map, take}
use Rattle.std.specs.Prelude.{option_map}
use Rattle.spec_core.specs.Numbers.{sort_number}
use Rattle.sort_overloads.specs.Views.{context_of}
use Rattle.static_processes.specs.Headings.{parameter_sorts}
use Rattle.static_processes.proofs.heading.parameter_sorts.Given as goal

abbrev pub invariant-loop-declaration : goal.invariant-loop-declaration
invariant-loop-declaration l = map (λ sort. option_map sort_number sort) l.all.items
    ≡ parameter_sorts (context_of l.scope) (take l.declaration-index l.declarations)
