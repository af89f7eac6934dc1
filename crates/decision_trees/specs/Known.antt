-- What is decided, and what is still needed, where some answers are known (this profile).
use Rattle.std.specs.Prelude.{ℕ, ◌≡◌, List, [], ◌∷◌, Option, Some, None, Bool, false}
use Rattle.spec_core.specs.Lists.{IsOneOf}
use Rattle.decision_trees.specs.Decisions.{Question, expand, judge, Answers, Decision, ends, asks_items, asks_verdict, asked}

-- answers to some questions
pub record Knowledge (I A : Type 0) : Type 0 where
  pub items : ℕ → Option (List I)
  pub verdict : A → Option Bool

-- answers to all questions, among them those that are known
pub record Extends {I A : Type 0} (s : Answers I A) (known : Knowledge I A) : Type 0 where
  pub items : (g : ℕ) (xs : List I) → known.items g ≡ Some xs → s.items g ≡ xs
  pub verdict : (a : A) (b : Bool) → known.verdict a ≡ Some b → s.verdict a ≡ b

abbrev pub where_known : {X R : Type 0} → Option X → (X → Option R) → Option R
where_known None k = None
where_known (Some x) k = k x

-- the result, where what is known decides it
abbrev pub decided : {I A R : Type 0} → Knowledge I A → Decision I A R → Option R
decided known (ends r) = Some r
decided known (asks_items g k) = where_known (known.items g) (λ xs. decided known (k xs))
decided known (asks_verdict a k) = where_known (known.verdict a) (λ b. decided known (k b))

-- the answer to the question isn't known
abbrev pub IsMissing : {I A : Type 0} → Knowledge I A → Question A → Type 0
IsMissing known (expand g) = known.items g ≡ None
IsMissing known (judge a) = known.verdict a ≡ None

-- A question is needed if its answer isn't known, and there are possible answers to all that aren't known with which the decision comes to
-- ask it.
pub record IsNeeded {I A R : Type 0} (known : Knowledge I A) (c : Decision I A R) (q : Question A) : Type 0 where
  pub missing : IsMissing known q
  pub answers : Answers I A
  pub possible : Extends answers known
  pub asks : IsOneOf q (asked answers c)

-- the answer if it is known, and else another one
abbrev pub known_or : {X : Type 0} → Option X → X → X
known_or None y = y
known_or (Some x) y = x

-- before other questions, a question whose answer isn't known
abbrev pub unless_known : {X Q : Type 0} → Option X → Q → List Q → List Q
unless_known None q qs = q ∷ qs
unless_known (Some x) q qs = qs

-- the questions that a walk finds for which each answer that isn't known is nothing: no item, or a candidate that doesn't hold
abbrev pub found : {I A R : Type 0} → Knowledge I A → Decision I A R → List (Question A)
found known (ends r) = []
found known (asks_items g k) = unless_known (known.items g) (expand g) (found known (k (known_or (known.items g) [])))
found known (asks_verdict a k) = unless_known (known.verdict a) (judge a) (found known (k (known_or (known.verdict a) false)))

-- answers to all questions: those that are known, and nothing for each that isn't
abbrev pub completed : {I A : Type 0} → Knowledge I A → Answers I A
completed known = record { items = λ g. known_or (known.items g) []; verdict = λ a. known_or (known.verdict a) false }
