-- All readings of an expression in their order, as a list: there may be as many as 2 to the power of its size. The program keeps
-- the first two of each sort.
use Rattle.std.specs.Prelude.{ℕ, suc, ◌≡◌, List, [], ◌∷◌, ◌++◌, Option, Some, None, map, Bool, false, ◌==◌, if◌then◌else◌}
use Rattle.std.specs.Char.{to_ascii_lowercase}
use Rattle.std.specs.List.{slice_get}
use Rattle.std.specs.Str.{bytes_eq}
use Rattle.spec_core.specs.Terms.{TermTree, variable, apply, terms}
use Rattle.spec_core.specs.Theories.{Operation}
use Rattle.sort_overloads.specs.Expressions.{Expression, Expressions, named, applied, said, nothing, no_expressions, and_expression}
use Rattle.sort_overloads.specs.Readings.{Declared, Context, spelling}

-- a term with its sort
pub record Typed : Type 0 where
  pub term : TermTree
  pub sort : ℕ

-- the first two of a list, or as many as there are
abbrev pub two : {A : Type 0} → List A → List A
two [] = []
two (x ∷ []) = x ∷ []
two (x ∷ y ∷ zs) = x ∷ y ∷ []

-- those with a sort of this kind
abbrev pub those : (ℕ → Bool) → List Typed → List Typed
those p [] = []
those p (r ∷ rs) = if p r.sort then r ∷ those p rs else those p rs

-- the terms of this sort
abbrev pub of_sort : ℕ → List Typed → List TermTree
of_sort sort [] = []
of_sort sort (r ∷ rs) = if r.sort == sort then r.term ∷ of_sort sort rs else of_sort sort rs

abbrev pub is_same_name : List ℕ → List ℕ → Bool
is_same_name name other = bytes_eq (map to_ascii_lowercase name) (map to_ascii_lowercase other)

-- the sort of this number has this name
abbrev pub is_name_of : List ℕ → Option (List ℕ) → Bool
is_name_of name None = false
is_name_of name (Some other) = is_same_name other name

-- each list with each of these terms behind it
abbrev pub extended : List (List TermTree) → List TermTree → List (List TermTree)
extended [] ts = []
extended (l ∷ ls) ts = map (λ t. l ++ (t ∷ [])) ts ++ extended ls ts

-- each list with, for each of the sorts, a reading of that sort of the argument at its place
abbrev pub argument_lists : List (List TermTree) → List (List Typed) → List ℕ → List (List TermTree)
argument_lists ls [] [] = ls
argument_lists ls (part ∷ parts) (sort ∷ sorts) = argument_lists (extended ls (of_sort sort part)) parts sorts
argument_lists ls [] (sort ∷ sorts) = []
argument_lists ls (part ∷ parts) [] = []

abbrev pub application : ℕ → ℕ → List TermTree → Typed
application f sort ts = record { term = apply f (terms ts); sort = sort }

-- the readings that begin with one operation, where it has this name
abbrev pub of_operation : List ℕ → List (List Typed) → ℕ → Operation → List Typed
of_operation name parts f d = if is_same_name d.name name then map (application f d.result) (argument_lists ([] ∷ []) parts d.args) else []

-- the readings that begin with one of the operations, the first of which has this number
abbrev pub of_operations : List ℕ → List (List Typed) → ℕ → List Operation → List Typed
of_operations name parts f [] = []
of_operations name parts f (d ∷ ds) = of_operation name parts f d ++ of_operations name parts (suc f) ds

-- the last variable of the name, behind the one that was found
abbrev pub last_variable : List ℕ → Option Typed → ℕ → List Declared → Option Typed
last_variable name found x [] = found
last_variable name found x (v ∷ vs) = last_variable name (if is_same_name v.name name then Some
    (record { term = variable x; sort = v.sort }) else found) (suc x) vs

-- the variable alone, or else the constants
abbrev pub name_readings : Option Typed → List Typed → List Typed
name_readings None constants = constants
name_readings (Some x) constants = x ∷ []

abbrev mutual
  pub readings : Context → Expression → List Typed
  readings c (named name) = name_readings (last_variable name.text None 0 c.variables) (of_operations name.text [] 0 c.operations)
  readings c (applied position name es) = of_operations (spelling position name.text) (all_readings c es) 0 c.operations
  readings c (said e name) = those (λ s. is_name_of name.text (slice_get c.sorts s)) (readings c e)
  readings c nothing = []

  pub all_readings : Context → Expressions → List (List Typed)
  all_readings c no_expressions = []
  all_readings c (and_expression e es) = readings c e ∷ all_readings c es

-- what is kept stands for all readings: whichever sorts are asked for, the first two are the same
abbrev pub StandsFor : List Typed → List Typed → Type 0
StandsFor all kept = (p : ℕ → Bool) → two (those p kept) ≡ two (those p all)
