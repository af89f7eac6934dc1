use Rattle.std.proofs.Common.{◌≡◌, take, false}
use Rattle.std.specs.List.{list_any}
use Rattle.sort_overloads.specs.Listed.{is_same_name}
use Rattle.static_equations.proofs.names.has_sort.Given as goal

abbrev pub invariant-loop-sort : goal.invariant-loop-sort
invariant-loop-sort l = list_any (λ other. is_same_name other l.name) (take l.sort-index l.sorts) ≡ false
