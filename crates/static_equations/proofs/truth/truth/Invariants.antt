use Rattle.std.proofs.Common.{◌≡◌, [], take}
use Rattle.std.specs.List.{slice_get, filter_map}
use Rattle.sort_overloads.specs.Views.{context_of}
use Rattle.static_equations.specs.Truths.{boolean_constant}
use Rattle.static_equations.proofs.truth.truth.Given as goal

abbrev pub invariant-loop-number : goal.invariant-loop-number
invariant-loop-number l =
    filter_map (λ f. boolean_constant (context_of l.scope).sorts f (slice_get (context_of l.scope).operations f)) (take l.number-index l.number-items) ≡ []
