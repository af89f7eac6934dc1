-- Lists of which parts aren't known before nodes are expanded, and searches in them (this profile).
use Rattle.std.specs.Prelude.{ℕ, List, [], ◌∷◌, Option, Some, None, Bool, true, false}
use Rattle.decision_trees.specs.Decisions.{Answers, Decision, ends, asks_items, asks_verdict, after}

-- nothing, an element before others, or what the items of a node make
pub data Lazy (I A : Type 0) : Type 0 where
  nil : Lazy I A
  cons : A → Lazy I A → Lazy I A
  waits : ℕ → (List I → Lazy I A) → Lazy I A

-- the list under answers
abbrev pub whole : {I A : Type 0} → Answers I A → Lazy I A → List A
whole s nil = []
whole s (cons a l) = a ∷ whole s l
whole s (waits g k) = whole s (k (s.items g))

-- a list that waits for nothing
abbrev pub of_list : {I A : Type 0} → List A → Lazy I A
of_list [] = nil
of_list (x ∷ xs) = cons x (of_list xs)

-- one list behind another
abbrev pub joined : {I A : Type 0} → Lazy I A → Lazy I A → Lazy I A
joined nil m = m
joined (cons a l) m = cons a (joined l m)
joined (waits g k) m = waits g (λ xs. joined (k xs) m)

-- in the place of each element those that f makes of it; f is asked for elements alone
abbrev pub each : {I A B : Type 0} → (A → Lazy I B) → Lazy I A → Lazy I B
each f nil = nil
each f (cons a l) = joined (f a) (each f l)
each f (waits g k) = waits g (λ xs. each f (k xs))

abbrev pub first : {A : Type 0} → List A → Option A
first [] = None
first (x ∷ xs) = Some x

abbrev pub stops_at : {I A : Type 0} → A → Decision I A (Option A) → Bool → Decision I A (Option A)
stops_at a rest true = ends (Some a)
stops_at a rest false = rest

-- the search for the first candidate that holds
abbrev pub first_holding : {I A : Type 0} → Lazy I A → Decision I A (Option A)
first_holding nil = ends None
first_holding (cons a l) = asks_verdict a (stops_at a (first_holding l))
first_holding (waits g k) = asks_items g (λ xs. first_holding (k xs))

abbrev pub keeps : {I A : Type 0} → A → Decision I A (List A) → Bool → Decision I A (List A)
keeps a rest true = after rest (λ xs. ends (a ∷ xs))
keeps a rest false = rest

-- the search for all candidates that hold
abbrev pub all_holding : {I A : Type 0} → Lazy I A → Decision I A (List A)
all_holding nil = ends []
all_holding (cons a l) = asks_verdict a (keeps a (all_holding l))
all_holding (waits g k) = asks_items g (λ xs. all_holding (k xs))
