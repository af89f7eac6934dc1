-- The constant `true` of the sort Bool, for which a condition that is one expression stands (this profile). It is looked for among the
-- operations, so no variable of its name hides it.
use Rattle.std.specs.Prelude.{ℕ, Bool, ◌&&◌, ◌==◌, List, Option, Some, None, codes, length, if◌then◌else◌}
use Rattle.std.specs.List.{slice_get, filter_map}
use Rattle.spec_core.specs.Terms.{constant}
use Rattle.spec_core.specs.Theories.{Operation}
use Rattle.sort_overloads.specs.Indexes.{numbers_of}
use Rattle.sort_overloads.specs.Listed.{Typed, is_name_of}
use Rattle.sort_overloads.specs.Readings.{Context}

-- the operation has no arguments, and its sort is named Bool
abbrev pub is_boolean_constant : List (List ℕ) → Operation → Bool
is_boolean_constant sorts d = (length d.args == 0) && is_name_of (codes "Bool") (slice_get sorts d.result)

-- an operation of this number as a term, if it is such a constant
abbrev pub constant_by : List (List ℕ) → ℕ → Operation → Option Typed
constant_by sorts f d = if is_boolean_constant sorts d then Some (record { term = constant f; sort = d.result }) else None

-- the operation of this number, if there is one
abbrev pub boolean_constant : List (List ℕ) → ℕ → Option Operation → Option Typed
boolean_constant sorts f None = None
boolean_constant sorts f (Some d) = constant_by sorts f d

-- the constants `true` of sorts named Bool; where no item stands twice there is at most one
abbrev pub truths : Context → List Typed
truths c = filter_map (λ f. boolean_constant c.sorts f (slice_get c.operations f)) (numbers_of (codes "true") c.operations)

-- the first of them
abbrev pub truth : Context → Option Typed
truth c = slice_get (truths c) 0
