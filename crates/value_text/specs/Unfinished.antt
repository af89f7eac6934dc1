-- Values that are printed in part.
use Rattle.std.specs.Prelude.{ℕ, suc, List, [], ◌∷◌, ◌++◌, ◌-◌, drop, length, Option, Some, None}
use Rattle.std.specs.List.{slice_get}
use Rattle.spec_core.specs.Terms.{TermTree}
use Rattle.spec_core.specs.TermText.{opening, separator, closing, between_at, sort_text, first_gap, term_texts, operation_name}
use Rattle.spec_core.specs.Theories.{Operation, Theory}
use Rattle.value_text.specs.declared.value.Frame.{Frame}
use Rattle.value_text.specs.Values.{first_terms, first_text, width_of}

-- texts from this place on, with what stands before each of them
abbrev pub joined_from : List ℕ → ℕ → List (List ℕ) → List ℕ
joined_from between place [] = []
joined_from between place (x ∷ xs) = between_at between place ++ (x ++ joined_from between (suc place) xs)

-- the name of the first of these operations
abbrev pub first_name : List Operation → List ℕ → List ℕ
first_name operations [] = []
first_name operations (f ∷ fs) = operation_name (slice_get operations f)

module _ (theory : Theory) where
  -- what stands before the arguments of an operation, where these terms follow
  abbrev pub opening_text : Option Operation → List TermTree → List ℕ
  opening_text None ts = []
  opening_text (Some d) ts =
      opening d.name (length d.args) ++ first_gap theory.operations [] (first_terms (length d.args) ts)

  -- what is left of an operation behind its first arguments, as many as `begun`; the terms that follow are its other ones
  abbrev pub rest_of : Option Operation → ℕ → List TermTree → List ℕ
  rest_of None begun ts = []
  rest_of (Some d) begun ts =
      joined_from (separator d.name (length d.args)) begun
      (term_texts theory.sorts theory.operations [] (first_terms (length d.args - begun) ts)) ++
      (closing (length d.args) ++ sort_text theory.sorts theory.operations d)

  -- what is left of several operations, each an argument of the next
  abbrev pub rest_text : List Frame → List TermTree → List ℕ
  rest_text [] ts = []
  rest_text (frame ∷ frames) ts =
      rest_of (slice_get theory.operations frame.op.0) frame.begun ts ++
      rest_text frames (drop (width_of theory.operations frame.op.0 - frame.begun) ts)

  -- the first of these terms, and then what is left of several operations
  abbrev pub first_rest : List Frame → List TermTree → List ℕ
  first_rest frames ts = first_text theory ts ++ rest_text frames (drop 1 ts)
