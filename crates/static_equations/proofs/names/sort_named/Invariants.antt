use Rattle.std.proofs.Common.{◌≡◌, ℕ, ◌<◌, List, get_or, false}
use Rattle.sort_overloads.specs.Listed.{is_same_name}
use Rattle.static_equations.proofs.names.sort_named.Given as goal

abbrev pub invariant-loop-i : goal.invariant-loop-i
invariant-loop-i l = (k : ℕ) (d : List ℕ) → k < l.i → is_same_name (get_or l.sorts k d) l.name ≡ false
