use Rattle.std.proofs.Common.{[], map, take}
use Rattle.std.specs.List.{zip}
use Rattle.type_contents.specs.Views.{described_of}
use Rattle.static_equations.specs.Gathered.{AddsBoth, Gathers}
use Rattle.static_presentation.specs.Own.{IsOwnOf}
use Rattle.static_presentation.specs.Views.{equations_of}
use Rattle.static_presentation.proofs.own.all_own.Given as goal

abbrev pub invariant-loop-number : goal.invariant-loop-number
invariant-loop-number l = AddsBoth (Gathers (IsOwnOf (map described_of l.flat.sorts.items) (map described_of l.flat.operations.items)) (take l.number (zip l.types l.flat.contents)))
    [] (map equations_of l.all.items) l.fn.refusals.items l.refusals.items
