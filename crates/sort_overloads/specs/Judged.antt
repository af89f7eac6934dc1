-- All that is to be said of an expression at its place: its one reading, or every refusal of it.
use Rattle.std.specs.Prelude.{◌≡◌, List, [], ◌∷◌, ◌++◌, Option, Some, None}
use Rattle.lotos_ast.specs.declared.place.Place.{Place}
use Rattle.lotos_ast.specs.declared.refusal.Refusal.{Refusal}
use Rattle.spec_core.specs.declared.items.Sort.{Sort}
use Rattle.spec_core.specs.Terms.{term_of}
use Rattle.sort_overloads.specs.declared.resolution.TypedTerm.{TypedTerm}
use Rattle.sort_overloads.specs.Expressions.{Expression}
use Rattle.sort_overloads.specs.Listed.{Typed}
use Rattle.sort_overloads.specs.Overloads.{IsOnlyReading}
use Rattle.sort_overloads.specs.Readings.{Context}
use Rattle.sort_overloads.specs.Refused.{unknowns, IsOverloadRefusal}

abbrev pub typed_term : TypedTerm → Typed
typed_term t = record { term = term_of t.term; sort = t.sort.0 }

abbrev pub typed_if_read : Option TypedTerm → Option Typed
typed_if_read None = None
typed_if_read (Some t) = Some (typed_term t)

-- The expression is read as this, or it has these refusals: those of its names that aren't known, or, where all are, that it has no
-- reading, or more than one.
pub data IsJudged (c : Context) (e : Expression) (wanted : Option Sort) (place : Place) : Option Typed → List Refusal → Type 0 where
  read : (x : Typed) → unknowns c e ≡ [] → IsOnlyReading c e wanted x.term x.sort → IsJudged c e wanted place (Some x) []
  unread : (r : Refusal) → unknowns c e ≡ [] → IsOverloadRefusal c e wanted place r → IsJudged c e wanted place None (r ∷ [])
  unknown : (r : Refusal) (rs : List Refusal) → unknowns c e ≡ r ∷ rs → IsJudged c e wanted place None (r ∷ rs)

-- refusals of which P holds stand behind those before
pub record Adds (P : List Refusal → Type 0) (before now : List Refusal) : Type 0 where
  pub refusals : List Refusal
  pub such : P refusals
  pub behind : now ≡ before ++ refusals
