-- Values as text.
use Rattle.std.specs.Prelude.{ℕ, ◌≡◌, zero, suc, Bool, List, [], ◌∷◌, drop, length, map, Option, Some, None, count_by, nat_lt, unwrap_or}
use Rattle.std.specs.List.{slice_get}
use Rattle.spec_core.specs.Sorts.{FitsGround}
use Rattle.spec_core.specs.Terms.{TermTree, TermTrees, variable, apply, no_terms, and_term, preorder}
use Rattle.spec_core.specs.TermText.{shares, term_text}
use Rattle.spec_core.specs.Theories.{Operation, Theory}

-- how many arguments an operation is declared with; none, where it isn't declared
abbrev pub declared_width : Option Operation → ℕ
declared_width None = 0
declared_width (Some d) = length d.args

abbrev pub width_of : List Operation → ℕ → ℕ
width_of operations f = declared_width (slice_get operations f)

-- the first n of these terms; where there are too few, a variable stands for each of the others
abbrev pub first_terms : ℕ → List TermTree → TermTrees
first_terms zero ts = no_terms
first_terms (suc n) [] = and_term (variable 0) (first_terms n [])
first_terms (suc n) (t ∷ ts) = and_term t (first_terms n ts)

-- the terms that a list of operations spells in preorder, one after another: each operation takes as its arguments the terms behind it
abbrev pub terms_in : List Operation → List ℕ → List TermTree
terms_in operations [] = []
terms_in operations (f ∷ fs) =
    apply f (first_terms (width_of operations f) (terms_in operations fs)) ∷ drop (width_of operations f) (terms_in operations fs)

-- the text of the first of these terms, in which no variable has a name
abbrev pub first_text : Theory → List TermTree → List ℕ
first_text theory [] = []
first_text theory (t ∷ ts) = term_text theory.sorts theory.operations [] t

-- the text of a value: that of the term that it spells
abbrev pub value_text : Theory → List ℕ → List ℕ
value_text theory value = first_text theory (terms_in theory.operations value)

-- the name at this place; none where there is none
abbrev pub name_at : List (List ℕ) → ℕ → List ℕ
name_at names place = unwrap_or (slice_get names place) []

-- more than one operation has the name and the argument sorts of this one
abbrev pub is_shared : List Operation → Operation → Bool
is_shared operations d = nat_lt 1 (count_by (shares d) operations)

-- for each operation, whether another one shares its name and its argument sorts
abbrev pub sharing : List Operation → List Bool
sharing operations = map (is_shared operations) operations

-- the operations of a ground term of the data, in preorder
pub record IsGroundList (theory : Theory) (value : List ℕ) : Type 0 where
  pub term : TermTree
  pub spelled : value ≡ preorder term
  pub fits : FitsGround theory term
