-- Why an expression is refused (this profile): for the first of its names that aren't known, or, where all are, since it has no reading,
-- or more than one.
use Rattle.std.specs.Prelude.{ℕ, ◌≡◌, List, [], ◌∷◌, ◌++◌, Bool, ◌||◌, if◌then◌else◌, map, Option, Some}
use Rattle.std.specs.List.{list_any}
use Rattle.lotos_ast.specs.declared.place.Place.{Place}
use Rattle.lotos_ast.specs.declared.refusal.Refusal.{Refusal}
use Rattle.lotos_ast.specs.declared.refusal.RefusalKind.{RefusalKind}
use Rattle.lotos_ast.specs.declared.refusal.RefusalKind.TheVariants.{UnknownSort, UnknownName, NoReading, Ambiguous}
use Rattle.lotos_ast.specs.declared.token.Token.{Token}
use Rattle.lotos_ast.specs.FirstRefusals.{first_refusal}
use Rattle.spec_core.specs.declared.items.Sort.{Sort}
use Rattle.spec_core.specs.Terms.{TermTree}
use Rattle.spec_core.specs.TermText.{term_text}
use Rattle.spec_core.specs.Theories.{Operation}
use Rattle.sort_overloads.specs.Expressions.{between, Expression, Expressions, named, applied, said, nothing}
use Rattle.sort_overloads.specs.Expressions.{no_expressions, and_expression}
use Rattle.sort_overloads.specs.Readings.{Context, spelling}
use Rattle.sort_overloads.specs.Listed.{is_same_name}
use Rattle.sort_overloads.specs.Overloads.{HasNoReading, AreFirstReadings}

abbrev pub refused : RefusalKind → Place → List (List ℕ) → Refusal
refused kind place names = record { kind = kind; place = place; names = names }

-- an operation has the name, before its arguments or between two
abbrev pub is_called : List ℕ → Operation → Bool
is_called name d = is_same_name d.name name || is_same_name d.name (spelling between name)

-- some variable or operation has the name
abbrev pub is_known : Context → List ℕ → Bool
is_known c name = list_any (λ v. is_same_name v.name name) c.variables || list_any (is_called name) c.operations

abbrev pub is_sort_known : Context → List ℕ → Bool
is_sort_known c name = list_any (λ other. is_same_name other name) c.sorts

-- a name is refused, or nothing
abbrev pub unknown_name : Context → Token → List Refusal
unknown_name c name = if is_known c name.text then [] else refused UnknownName name.place [] ∷ []

abbrev pub unknown_sort : Context → Token → List Refusal
unknown_sort c sort = if is_sort_known c sort.text then [] else refused UnknownSort sort.place [] ∷ []

-- the names and sorts in an expression that aren't known, in the order of the text
abbrev mutual
  pub unknowns : Context → Expression → List Refusal
  unknowns c (named name) = unknown_name c name
  unknowns c (applied between name (and_expression e es)) = (unknowns c e ++ unknown_name c name) ++ all_unknowns c es
  unknowns c (applied position name es) = unknown_name c name ++ all_unknowns c es
  unknowns c (said e sort) = unknowns c e ++ unknown_sort c sort
  unknowns c nothing = []

  pub all_unknowns : Context → Expressions → List Refusal
  all_unknowns c no_expressions = []
  all_unknowns c (and_expression e es) = unknowns c e ++ all_unknowns c es

-- a reading as text
abbrev pub text_in : Context → TermTree → List ℕ
text_in c t = term_text c.sorts c.operations (map (λ v. v.name) c.variables) t

-- the refusal of an expression at this place, all of whose names are known: it has no reading, or more than one, of which the first two are
-- named
pub data IsOverloadRefusal (c : Context) (e : Expression) (wanted : Option Sort) (place : Place) : Refusal → Type 0 where
  no_reading : HasNoReading c e wanted → IsOverloadRefusal c e wanted place (refused NoReading place [])
  ambiguous : (a b : TermTree) → AreFirstReadings c e wanted a b →
      IsOverloadRefusal c e wanted place (refused Ambiguous place (text_in c a ∷ text_in c b ∷ []))

-- the refusal of an expression at this place
pub data IsExpressionRefusal (c : Context) (e : Expression) (wanted : Option Sort) (place : Place) : Refusal → Type 0 where
  unknown : {r : Refusal} → first_refusal (unknowns c e) ≡ Some r → IsExpressionRefusal c e wanted place r
  known : {r : Refusal} → unknowns c e ≡ [] → IsOverloadRefusal c e wanted place r → IsExpressionRefusal c e wanted place r
