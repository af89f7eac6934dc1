-- What a line says in the names of a specification. (This profile.)
use Rattle.std.specs.Prelude.{ℕ, ◌≡◌, ◌==◌, List, [], ◌∷◌, Bool, Option, Some, None, is_none}
use Rattle.std.specs.List.{list_any, position}
use Rattle.lotos_ast.specs.declared.refusal.Refusal.{Refusal}
use Rattle.lotos_ast.specs.Refusals.{number_of}
use Rattle.spec_core.specs.Terms.{TermTree}
use Rattle.spec_core.specs.Theories.{Theory}
use Rattle.sort_overloads.specs.Expressions.{Expression}
use Rattle.sort_overloads.specs.Listed.{is_same_name}
use Rattle.sort_overloads.specs.Overloads.{IsOnlyReading}
use Rattle.sort_overloads.specs.Readings.{Context}
use Rattle.sort_overloads.specs.Refused.{unknowns}
use Rattle.script_text.specs.Numbers.{client_of}
use Rattle.script_text.specs.Wishes.{WishedField, gives, takes, Wished, ClientWish}
use Rattle.script_text.specs.Written.{Field, given, taken, Line}

-- what a term may speak of: the sorts and operations of the data, and no variables
abbrev pub context_in : Theory → Context
context_in theory = record { sorts = theory.sorts; operations = theory.operations; variables = [] }

-- the number of the first of the names that is this one
abbrev pub first_named : List ℕ → List (List ℕ) → Option ℕ
first_named name names = position (λ other. is_same_name other name) names

-- 8 is the number of UnknownSort
abbrev pub is_of_sort : Refusal → Bool
is_of_sort r = number_of r.kind == 8

-- whether an expression says of a term that it is of a sort which the data don't have
abbrev pub says_unknown_sort : Context → Expression → Bool
says_unknown_sort c e = list_any is_of_sort (unknowns c e)

abbrev pub has_unknown_sort : Context → Field → Bool
has_unknown_sort c (given e) = says_unknown_sort c e
has_unknown_sort c (taken sort) = is_none (first_named sort.text c.sorts)

-- the expression has no reading, or more than one
pub record IsUnclear (c : Context) (e : Expression) : Type 0 where
  pub none : (t : TermTree) (sort : ℕ) → IsOnlyReading c e None t sort → ⊥

abbrev pub HasUnclearTerm : Context → Field → Type 0
HasUnclearTerm c (given e) = IsUnclear c e
HasUnclearTerm c (taken sort) = ⊥

-- a value that is given is the one reading of its expression, and a sort is the one of its name
abbrev pub FieldMeans : Context → Field → WishedField → Type 0
FieldMeans c (given e) (gives t) = (sort : ℕ) × IsOnlyReading c e None t sort
FieldMeans c (taken name) (takes sort) = first_named name.text c.sorts ≡ Some sort
FieldMeans c (given e) (takes sort) = ⊥
FieldMeans c (taken name) (gives t) = ⊥

-- field by field
abbrev pub FieldsMean : Context → List Field → List WishedField → Type 0
FieldsMean c [] [] = Unit {0}
FieldsMean c (f ∷ fs) (w ∷ ws) = FieldMeans c f w × FieldsMean c fs ws
FieldsMean c [] (w ∷ ws) = ⊥
FieldsMean c (f ∷ fs) [] = ⊥

-- an offer with this name of a gate and these fields is what is wished
pub record OfferMeans (c : Context) (gates : List (List ℕ)) (name : List ℕ) (fields : List Field) (w : Wished) : Type 0 where
  pub gate : first_named name gates ≡ Some w.gate
  pub meant : FieldsMean c fields w.fields

-- the line says that this client has this wish
pub record LineMeans (c : Context) (gates : List (List ℕ)) (l : Line) (x : ClientWish) : Type 0 where
  pub client : client_of l.client ≡ Some x.client
  pub ask : x.wish.ask ≡ l.asks
  pub offer : OfferMeans c gates l.gate l.fields x.wish
