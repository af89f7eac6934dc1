use Rattle.std.proofs.Common.{map}
use Rattle.std.specs.Prelude.{option_map}
use Rattle.spec_core.specs.Numbers.{sort_number}
use Rattle.spec_core.proofs.Lists.{flat_map_next}
use Rattle.sort_overloads.specs.Views.{context_of}
use Rattle.static_processes.specs.Headings.{known_sort}
use Rattle.static_processes.proofs.heading.parameter_sorts.Goals as goal

pub loop-declaration-preserved : goal.loop-declaration-preserved
loop-declaration-preserved c = flat_map_next (λ d. map (λ t. known_sort (context_of c.args.scope.now) d.sort) d.names.items) (map (λ sort. option_map sort_number sort) c.loop-declaration.all.items)
    (map (λ sort. option_map sort_number sort) c.add_sorts_of.new.all.items) c.args.declarations.now
    c.loop-declaration.declaration-index c.declaration-item.result
    c.loop-declaration-test.true c.declaration-item.is c.loop-declaration.invariant c.in_ok-add_sorts_of.ensures
