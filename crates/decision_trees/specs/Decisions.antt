-- Trees of questions (this profile). What a session does next depends on what nodes of its behaviour can take part in, and on whether
-- candidates for an action hold. Both are asked one after another, and what is asked next depends on what was answered.
use Rattle.std.specs.Prelude.{ℕ, List, [], ◌∷◌, Bool}

-- what can be asked: what the node of this number can take part in, its items; and whether a candidate holds
pub data Question (A : Type 0) : Type 0 where
  expand : ℕ → Question A
  judge : A → Question A

-- answers to all questions
pub record Answers (I A : Type 0) : Type 0 where
  pub items : ℕ → List I
  pub verdict : A → Bool

-- a result, or a question and what comes for each answer
pub data Decision (I A R : Type 0) : Type 0 where
  ends : R → Decision I A R
  asks_items : ℕ → (List I → Decision I A R) → Decision I A R
  asks_verdict : A → (Bool → Decision I A R) → Decision I A R

-- the result under answers
abbrev pub result : {I A R : Type 0} → Answers I A → Decision I A R → R
result s (ends r) = r
result s (asks_items g k) = result s (k (s.items g))
result s (asks_verdict a k) = result s (k (s.verdict a))

-- the questions that are asked under answers, in order
abbrev pub asked : {I A R : Type 0} → Answers I A → Decision I A R → List (Question A)
asked s (ends r) = []
asked s (asks_items g k) = expand g ∷ asked s (k (s.items g))
asked s (asks_verdict a k) = judge a ∷ asked s (k (s.verdict a))

-- one decision, and then another that its result chooses
abbrev pub after : {I A R S : Type 0} → Decision I A R → (R → Decision I A S) → Decision I A S
after (ends r) f = f r
after (asks_items g k) f = asks_items g (λ xs. after (k xs) f)
after (asks_verdict a k) f = asks_verdict a (λ b. after (k b) f)
