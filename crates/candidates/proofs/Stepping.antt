-- Searches in a list with gaps, one element after another.
use Rattle.std.proofs.Common.{◌≡◌, ◌++◌, ◌∙◌, ◌||◌, List, [], ◌∷◌, flat_map, refl, sym, ap, Option, Some, None, option_map}
use Rattle.std.proofs.Common.{Bool, true, false, cond, if◌then◌else◌, append_assoc}
use Rattle.std.proofs.lemmas.List.{append-nil}
use Rattle.std.specs.Prelude.{is_some}
use Rattle.decision_trees.specs.Decisions.{Question, expand, judge}
use Rattle.decision_trees.specs.Known.{where_known, known_or, unless_known}
use Rattle.decision_trees.specs.Lazy.{first}
use Rattle.decision_trees.specs.Gaps.{OrGap, element, gap, first_known, all_known, missing_to_first, all_missing, known_to_hold}

-- what comes of a search from what its first element comes to, and what comes of it behind
abbrev pub first_then : {A : Type 0} → Option (Option A) → Option (Option A) → Option (Option A)
first_then None rest = None
first_then (Some None) rest = rest
first_then (Some (Some a)) rest = Some (Some a)

abbrev pub all_then : {A : Type 0} → Option (Option A) → Option (List A) → Option (List A)
all_then None rest = None
all_then (Some None) rest = rest
all_then (Some (Some a)) rest = option_map (λ xs. a ∷ xs) rest

-- what was found, and what is found behind
abbrev pub and_more : {A : Type 0} → List A → Option (List A) → Option (List A)
and_more xs o = option_map (λ ys. xs ++ ys) o

pub one_more : {A : Type 0} (xs : List A) (a : A) (o : Option (List A)) → and_more xs (option_map (λ ys. a ∷ ys) o) ≡ and_more (xs ++ a ∷ []) o
one_more xs a None = refl
one_more xs a (Some ys) = ap Some (sym (append_assoc xs (a ∷ []) ys))

module _ {A : Type 0} (verdict : A → Option Bool) where
  pub first_from : (x : OrGap A) (l : List (OrGap A)) →
      first_known verdict (x ∷ l) ≡ first_then (first_known verdict (x ∷ [])) (first_known verdict l)
  first_from (gap g) l = refl
  first_from (element a) l = by_verdict (verdict a)
    where
      by_verdict : (o : Option Bool) → where_known o (λ b. if b then Some (Some a) else first_known verdict l) ≡
          first_then (where_known o (λ b. if b then Some (Some a) else Some None)) (first_known verdict l)
      by_verdict None = refl
      by_verdict (Some true) = refl
      by_verdict (Some false) = refl

  pub all_from : (x : OrGap A) (l : List (OrGap A)) →
      all_known verdict (x ∷ l) ≡ all_then (first_known verdict (x ∷ [])) (all_known verdict l)
  all_from (gap g) l = refl
  all_from (element a) l = by_verdict (verdict a)
    where
      by_verdict : (o : Option Bool) →
          where_known o (λ b. if b then option_map (λ xs. a ∷ xs) (all_known verdict l) else all_known verdict l) ≡
          all_then (where_known o (λ b. if b then Some (Some a) else Some None)) (all_known verdict l)
      by_verdict None = refl
      by_verdict (Some true) = refl
      by_verdict (Some false) = refl

module _ {A J : Type 0} (verdict : A → Option Bool) (jobs : Question A → List J) where
  -- the jobs that a search asks, and whether it is known that one holds
  abbrev to_first : List (OrGap A) → List J
  to_first l = flat_map jobs (missing_to_first verdict l)

  abbrev to_all : List (OrGap A) → List J
  to_all l = flat_map jobs (all_missing verdict l)

  abbrev held : List (OrGap A) → Bool
  held l = is_some (first (known_to_hold verdict l))

  alone : (js ks : List J) → js ++ ks ≡ (js ++ []) ++ ks
  alone js ks = ap (λ z. z ++ ks) (sym (append-nil js))

  -- it isn't known that the first element holds: what it asks, and what is asked behind it
  pub more_to_first : (x : OrGap A) (l : List (OrGap A)) → held (x ∷ []) ≡ false → to_first (x ∷ l) ≡ to_all (x ∷ []) ++ to_first l
  more_to_first (gap g) l h = alone (jobs (expand g)) (to_first l)
  more_to_first (element a) l h = by_verdict (verdict a) h
    where
      by_verdict : (o : Option Bool) → is_some (first (cond (known_or o false) (a ∷ []) [])) ≡ false →
          flat_map jobs (unless_known o (judge a) (if known_or o false then [] else missing_to_first verdict l)) ≡
          flat_map jobs (unless_known o (judge a) []) ++ to_first l
      by_verdict None h = alone (jobs (judge a)) (to_first l)
      by_verdict (Some true) h = let no : ⊥ = cc in absurd no
      by_verdict (Some false) h = refl

  -- it is known that the first element holds: nothing else is asked
  pub end_to_first : (x : OrGap A) (l : List (OrGap A)) → held (x ∷ []) ≡ true → to_first (x ∷ l) ≡ to_all (x ∷ [])
  end_to_first (gap g) l h = let no : ⊥ = cc in absurd no
  end_to_first (element a) l h = by_verdict (verdict a) h
    where
      by_verdict : (o : Option Bool) → is_some (first (cond (known_or o false) (a ∷ []) [])) ≡ true →
          flat_map jobs (unless_known o (judge a) (if known_or o false then [] else missing_to_first verdict l)) ≡
          flat_map jobs (unless_known o (judge a) [])
      by_verdict None h = let no : ⊥ = cc in absurd no
      by_verdict (Some true) h = refl
      by_verdict (Some false) h = let no : ⊥ = cc in absurd no

  pub more_to_all : (x : OrGap A) (l : List (OrGap A)) → to_all (x ∷ l) ≡ to_all (x ∷ []) ++ to_all l
  more_to_all (gap g) l = alone (jobs (expand g)) (to_all l)
  more_to_all (element a) l = by_verdict (verdict a)
    where
      by_verdict : (o : Option Bool) → flat_map jobs (unless_known o (judge a) (all_missing verdict l)) ≡
          flat_map jobs (unless_known o (judge a) []) ++ to_all l
      by_verdict None = alone (jobs (judge a)) (to_all l)
      by_verdict (Some b) = refl

  pub held_from : (x : OrGap A) (l : List (OrGap A)) → held (x ∷ l) ≡ held (x ∷ []) || held l
  held_from (gap g) l = refl
  held_from (element a) l = by_test (known_or (verdict a) false)
    where
      by_test : (b : Bool) → is_some (first (cond b (a ∷ known_to_hold verdict l) (known_to_hold verdict l))) ≡
          is_some (first (cond b (a ∷ []) [])) || held l
      by_test true = refl
      by_test false = refl
