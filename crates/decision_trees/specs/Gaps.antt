-- Lists that wait, as far as what is known, and searches in them (this profile).
use Rattle.std.specs.Prelude.{ℕ, List, [], ◌∷◌, filter, Option, Some, None, option_map, Bool, false, if◌then◌else◌}
use Rattle.decision_trees.specs.Decisions.{Question, expand, judge}
use Rattle.decision_trees.specs.Known.{where_known, known_or, unless_known}
use Rattle.decision_trees.specs.Lazy.{Lazy, nil, cons, waits}

-- an element, or the number of a node whose items aren't known
pub data OrGap (A : Type 0) : Type 0 where
  element : A → OrGap A
  gap : ℕ → OrGap A

-- the elements, and in its place a gap for each node whose items aren't known; nothing stands for its items
abbrev pub with_gaps : {I A : Type 0} → (ℕ → Option (List I)) → Lazy I A → List (OrGap A)
with_gaps items nil = []
with_gaps items (cons a l) = element a ∷ with_gaps items l
with_gaps items (waits g k) = unless_known (items g) (gap g) (with_gaps items (k (known_or (items g) [])))

-- a gap stays where it is, and an element gives way to others
abbrev pub in_its_place : {A B : Type 0} → (A → List (OrGap B)) → OrGap A → List (OrGap B)
in_its_place f (element a) = f a
in_its_place f (gap g) = gap g ∷ []

-- the elements alone
abbrev pub elements : {A : Type 0} → List (OrGap A) → List A
elements [] = []
elements (element a ∷ l) = a ∷ elements l
elements (gap g ∷ l) = elements l

module _ {A : Type 0} (verdict : A → Option Bool) where
  -- the first element that holds, or that there is none; unless before it there is a gap, or an element of which that isn't known
  abbrev pub first_known : List (OrGap A) → Option (Option A)
  first_known [] = Some None
  first_known (gap g ∷ l) = None
  first_known (element a ∷ l) = where_known (verdict a) (λ holds. if holds then Some (Some a) else first_known l)

  -- the elements that hold, unless there is a gap, or an element of which that isn't known
  abbrev pub all_known : List (OrGap A) → Option (List A)
  all_known [] = Some []
  all_known (gap g ∷ l) = None
  all_known (element a ∷ l) = where_known (verdict a) (λ holds. if holds then option_map (λ xs. a ∷ xs) (all_known l) else all_known l)

  -- the nodes to expand and the elements to judge that stand before the first element that is known to hold
  abbrev pub missing_to_first : List (OrGap A) → List (Question A)
  missing_to_first [] = []
  missing_to_first (gap g ∷ l) = expand g ∷ missing_to_first l
  missing_to_first (element a ∷ l) =
      unless_known (verdict a) (judge a) (if known_or (verdict a) false then [] else missing_to_first l)

  -- all of them
  abbrev pub all_missing : List (OrGap A) → List (Question A)
  all_missing [] = []
  all_missing (gap g ∷ l) = expand g ∷ all_missing l
  all_missing (element a ∷ l) = unless_known (verdict a) (judge a) (all_missing l)

  -- the elements that are known to hold
  abbrev pub known_to_hold : List (OrGap A) → List A
  known_to_hold l = filter (λ a. known_or (verdict a) false) (elements l)
