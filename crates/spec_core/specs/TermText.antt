-- Terms as text.
use Rattle.std.specs.Prelude.{ℕ, List, [], ◌∷◌, ◌++◌, length, take, drop, map, codes, Option, Some, None, unwrap_or, Bool, ◌==◌, ◌&&◌, ◌-◌}
use Rattle.std.specs.Prelude.{if◌then◌else◌, nat_lt, count_by}
use Rattle.std.specs.Char.{to_ascii_lowercase}
use Rattle.std.specs.List.{slice_get}
use Rattle.std.specs.Str.{bytes_eq}
use Rattle.spec_core.specs.Terms.{TermTree, TermTrees, variable, apply, no_terms, and_term, width}
use Rattle.spec_core.specs.Theories.{Operation}

-- the name between two underscores, if it is one
abbrev pub infix_word : List ℕ → Option (List ℕ)
infix_word name =
    let word = take (length name - 2) (drop 1 name) in
    if bytes_eq name (95 ∷ (word ++ 95 ∷ [])) then Some word else None

-- the word that stands between two arguments, where the operation is declared infix
abbrev pub infix_at : List ℕ → ℕ → Option (List ℕ)
infix_at name arguments = if arguments == 2 then infix_word name else None

-- what stands before the arguments of an operation, between two of them, and after them
abbrev pub prefix_opening : List ℕ → ℕ → List ℕ
prefix_opening name arguments = if arguments == 0 then name else name ++ codes "("

abbrev pub opening_by : List ℕ → ℕ → Option (List ℕ) → List ℕ
opening_by name arguments None = prefix_opening name arguments
opening_by name arguments (Some word) = codes "("

abbrev pub separator_by : Option (List ℕ) → List ℕ
separator_by None = codes ","
separator_by (Some word) = codes " " ++ word ++ codes " "

abbrev pub opening : List ℕ → ℕ → List ℕ
opening name arguments = opening_by name arguments (infix_at name arguments)

abbrev pub separator : List ℕ → ℕ → List ℕ
separator name arguments = separator_by (infix_at name arguments)

abbrev pub closing : ℕ → List ℕ
closing arguments = if arguments == 0 then [] else codes ")"

-- texts with a separator between two
abbrev pub joined : List ℕ → List (List ℕ) → List ℕ
joined between [] = []
joined between (x ∷ []) = x
joined between (x ∷ y ∷ xs) = x ++ (between ++ joined between (y ∷ xs))

-- what stands before the text of this place among them
abbrev pub between_at : List ℕ → ℕ → List ℕ
between_at between place = if place == 0 then [] else between

-- two operations share name and argument sorts
abbrev pub shares : Operation → Operation → Bool
shares d e = bytes_eq (map to_ascii_lowercase d.name) (map to_ascii_lowercase e.name) && bytes_eq d.args e.args

-- ` of S` behind a term whose operation shares name and argument sorts with another one
abbrev pub sort_text : List (List ℕ) → List Operation → Operation → List ℕ
sort_text sorts operations d =
    if nat_lt 1 (count_by (shares d) operations) then codes " of " ++ unwrap_or (slice_get sorts d.result) [] else []

-- a blank where `*` would stand right after a bracket, since `(*` begins a comment
abbrev pub gap_before : List ℕ → List ℕ
gap_before [] = []
gap_before (b ∷ bs) = if b == 42 then codes " " else []

abbrev pub name_text : Option (List ℕ) → List ℕ
name_text None = []
name_text (Some name) = name

abbrev pub operation_name : Option Operation → List ℕ
operation_name None = []
operation_name (Some d) = d.name

-- the name with which a term's text begins, unless its operation is infix
abbrev pub head_name : List Operation → List (List ℕ) → TermTree → List ℕ
head_name operations names (variable x) = name_text (slice_get names x)
head_name operations names (apply f ts) = operation_name (slice_get operations f)

abbrev pub first_gap : List Operation → List (List ℕ) → TermTrees → List ℕ
first_gap operations names no_terms = []
first_gap operations names (and_term t ts) = gap_before (head_name operations names t)

-- an operation over arguments with these texts
abbrev pub application_text : List (List ℕ) → List Operation → ℕ → List ℕ → List (List ℕ) → Option Operation → List ℕ
application_text sorts operations arguments gap texts None = []
application_text sorts operations arguments gap texts (Some d) =
    opening d.name arguments ++ gap ++ joined (separator d.name arguments) texts ++ closing arguments ++ sort_text sorts operations d

-- the text of a term over a signature, with these names of its variables: a constant and a variable are their names, a prefix
-- application is `f(t1,t2)`, an infix one `(t1 + t2)`
abbrev mutual
  pub term_text : List (List ℕ) → List Operation → List (List ℕ) → TermTree → List ℕ
  term_text sorts operations names (variable x) = name_text (slice_get names x)
  term_text sorts operations names (apply f ts) =
      application_text sorts operations (width ts) (first_gap operations names ts) (term_texts sorts operations names ts)
      (slice_get operations f)

  pub term_texts : List (List ℕ) → List Operation → List (List ℕ) → TermTrees → List (List ℕ)
  term_texts sorts operations names no_terms = []
  term_texts sorts operations names (and_term t ts) = term_text sorts operations names t ∷ term_texts sorts operations names ts
