-- What follows from the definitions.
use Rattle.std.specs.Prelude.{ℕ, ◌≡◌, ◌⊎◌, ◌++◌, List, [], ◌∷◌, map, filter, flat_map, Option, Some, None, option_map, is_some, Bool}
use Rattle.spec_core.specs.Lists.{IsOneOf}
use Rattle.decision_trees.specs.Decisions.{Question, Answers, Decision, result, asked, after}
use Rattle.decision_trees.specs.Known.{Knowledge, Extends, where_known, decided, IsNeeded, found, completed}
use Rattle.decision_trees.specs.Lazy.{Lazy, whole, of_list, joined, each, first, first_holding, all_holding}
use Rattle.decision_trees.specs.Gaps.{OrGap, element, with_gaps, in_its_place, first_known, all_known, missing_to_first, all_missing}
use Rattle.decision_trees.specs.Gaps.{known_to_hold}
use Rattle.decision_trees.specs.Rules.{Query, Waiting, if_there, when, next_of, decision}

-- what is decided from what is known is the result under all answers that extend it
abbrev pub DecidedIsSo : (I A R : Type 0) → Type 0
DecidedIsSo I A R = (known : Knowledge I A) (c : Decision I A R) (r : R) (s : Answers I A) →
    Extends s known → decided known c ≡ Some r → result s c ≡ r

-- all is decided and nothing is found, or something is found and the result isn't decided
abbrev pub DecidedOrFound : (I A R : Type 0) → Type 0
DecidedOrFound I A R = (known : Knowledge I A) (c : Decision I A R) →
    ((r : R) × (decided known c ≡ Some r) × (found known c ≡ []))
    ⊎ ((q : Question A) × (qs : List (Question A)) × (decided known c ≡ None) × (found known c ≡ q ∷ qs))

-- the first question that is found is asked under all answers that extend what is known
abbrev pub FirstIsAsked : (I A R : Type 0) → Type 0
FirstIsAsked I A R = (known : Knowledge I A) (c : Decision I A R) (q : Question A) (qs : List (Question A)) (s : Answers I A) →
    Extends s known → found known c ≡ q ∷ qs → IsOneOf q (asked s c)

-- each question that is found is needed
abbrev pub FoundAreNeeded : (I A R : Type 0) → Type 0
FoundAreNeeded I A R = (known : Knowledge I A) (c : Decision I A R) (q : Question A) → IsOneOf q (found known c) → IsNeeded known c q

-- where a question is needed, one is found
abbrev pub NeededIsFound : (I A R : Type 0) → Type 0
NeededIsFound I A R = (known : Knowledge I A) (c : Decision I A R) (q : Question A) → IsNeeded known c q → found known c ≡ [] → ⊥

-- behind a decision the walk goes on with what this comes to where each answer that isn't known is nothing
abbrev pub FoundAfter : (I A R S : Type 0) → Type 0
FoundAfter I A R S = (known : Knowledge I A) (c : Decision I A R) (f : R → Decision I A S) →
    found known (after c f) ≡ found known c ++ found known (f (result (completed known) c))

-- the results of one decision after another, and of searches; and what lists that wait come to
pub record SearchesAreSo (I A B R S : Type 0) : Type 0 where
  pub one_after_another : (s : Answers I A) (c : Decision I A R) (f : R → Decision I A S) → result s (after c f) ≡ result s (f (result s c))
  pub firsts : (s : Answers I A) (l : Lazy I A) → result s (first_holding l) ≡ first (filter s.verdict (whole s l))
  pub alls : (s : Answers I A) (l : Lazy I A) → result s (all_holding l) ≡ filter s.verdict (whole s l)
  pub listed : (s : Answers I A) (xs : List A) → whole s (of_list {I = I} xs) ≡ xs
  pub joins : (s : Answers I A) (l m : Lazy I A) → whole s (joined l m) ≡ whole s l ++ whole s m
  pub flat : (s : Answers I A) (t : Answers I B) → ((g : ℕ) → s.items g ≡ t.items g) → (f : A → Lazy I B) (l : Lazy I A) →
      whole t (each f l) ≡ flat_map (λ a. whole t (f a)) (whole s l)

-- the decision of the rules comes to what the rules say of the whole lists of those that hold
abbrev pub DecisionIsNext : (I P A : Type 0) → Type 0
DecisionIsNext I P A = (lazy : Query P → Lazy I A) (w : Waiting P) (s : Answers I A) →
    result s (decision lazy w) ≡ next_of (λ q. filter s.verdict (whole s (lazy q))) w

-- what is decided of a search, what it finds to be asked, and what it comes to where each answer that isn't known is nothing, are read off
-- the list with its gaps
pub record GapsAreSo (I A : Type 0) : Type 0 where
  pub firsts : (known : Knowledge I A) (l : Lazy I A) →
      decided known (first_holding l) ≡ first_known known.verdict (with_gaps known.items l)
  pub alls : (known : Knowledge I A) (l : Lazy I A) →
      decided known (all_holding l) ≡ all_known known.verdict (with_gaps known.items l)
  pub missing_to_firsts : (known : Knowledge I A) (l : Lazy I A) →
      found known (first_holding l) ≡ missing_to_first known.verdict (with_gaps known.items l)
  pub all_missings : (known : Knowledge I A) (l : Lazy I A) →
      found known (all_holding l) ≡ all_missing known.verdict (with_gaps known.items l)
  pub first_held : (known : Knowledge I A) (l : Lazy I A) →
      result (completed known) (first_holding l) ≡ first (known_to_hold known.verdict (with_gaps known.items l))
  pub all_held : (known : Knowledge I A) (l : Lazy I A) →
      result (completed known) (all_holding l) ≡ known_to_hold known.verdict (with_gaps known.items l)

-- the list with gaps of what is put together from parts, from those of the parts
pub record PartsAreSo (I A B : Type 0) : Type 0 where
  pub listed : (items : ℕ → Option (List I)) (xs : List A) → with_gaps items (of_list xs) ≡ map element xs
  pub joins : (items : ℕ → Option (List I)) (l m : Lazy I A) →
      with_gaps items (joined l m) ≡ with_gaps items l ++ with_gaps items m
  pub flat : (items : ℕ → Option (List I)) (f : A → Lazy I B) (l : Lazy I A) →
      with_gaps items (each f l) ≡ flat_map (in_its_place (λ a. with_gaps items (f a))) (with_gaps items l)

-- searches in one list behind another, from searches in the two
pub record SearchesInParts (A : Type 0) : Type 0 where
  pub firsts : (verdict : A → Option Bool) (l m : List (OrGap A)) →
      first_known verdict (l ++ m) ≡
      where_known (first_known verdict l) (λ r. if_there r (λ a. Some (Some a)) (first_known verdict m))
  pub alls : (verdict : A → Option Bool) (l m : List (OrGap A)) →
      all_known verdict (l ++ m) ≡ where_known (all_known verdict l) (λ xs. option_map (λ ys. xs ++ ys) (all_known verdict m))
  pub missing_to_firsts : (verdict : A → Option Bool) (l m : List (OrGap A)) →
      missing_to_first verdict (l ++ m) ≡
      missing_to_first verdict l ++ when (is_some (first (known_to_hold verdict l))) [] (missing_to_first verdict m)
  pub all_missings : (verdict : A → Option Bool) (l m : List (OrGap A)) →
      all_missing verdict (l ++ m) ≡ all_missing verdict l ++ all_missing verdict m
  pub held : (verdict : A → Option Bool) (l m : List (OrGap A)) →
      known_to_hold verdict (l ++ m) ≡ known_to_hold verdict l ++ known_to_hold verdict m
