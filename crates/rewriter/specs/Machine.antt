-- What a machine that evaluates has left to do, and what comes of it.
use Rattle.std.specs.Prelude.{ℕ, zero, suc, ◌≡◌, ◌⊎◌, ◌<◌, ◌+◌, List, [], ◌∷◌, drop}
use Rattle.spec_core.specs.Terms.{TermTree, TermTrees, variable, apply, no_terms, and_term, width, instance}
use Rattle.spec_core.specs.Theories.{Premise, ConditionalEquation, Theory}
use Rattle.spec_core.specs.Evaluation.{Evaluates, Tries, Asks, EvaluationMeets, TriesMeet, AsksMeet}
use Rattle.value_nodes.specs.Sizes.{IsTooLarge}

-- what an evaluation comes to: a value after so many uses of equations; or, on its way, a value that it meets
pub data Outcome : Type 0 where
  gives : TermTree → ℕ → Outcome
  meets : TermTree → Outcome

-- what the evaluation of a term comes to
abbrev pub Evaluating : Theory → TermTree → Outcome → Type 0
Evaluating theory t (gives v n) = Evaluates theory t v n
Evaluating theory t (meets w) = EvaluationMeets theory t w

-- what an operation over values comes to, with these equations left to be tried
abbrev pub Trying : Theory → List ConditionalEquation → ℕ → TermTrees → Outcome → Type 0
Trying theory es f vs (gives v n) = Tries theory es f vs v n
Trying theory es f vs (meets w) = TriesMeet theory es f vs w

-- the same with these premises left to be asked of an equation that matches
abbrev pub Asking : Theory → List Premise → TermTree → (ℕ → TermTree) → List ConditionalEquation → ℕ → TermTrees → Outcome → Type 0
Asking theory ps r s es f vs (gives v n) = Asks theory ps r s es f vs v n
Asking theory ps r s es f vs (meets w) = AsksMeet theory ps r s es f vs w

-- the same once the sides of a premise of the equation have these values: equal ones lead to the next premises, others to the next
-- equations
abbrev pub Deciding :
    Theory → ConditionalEquation → List Premise → List ConditionalEquation → ℕ → TermTrees → TermTree → TermTree → Outcome → Type 0
Deciding theory e ps es f vs a b o =
    (a ≡ b) × ((s : ℕ → TermTree) × (instance s e.left ≡ apply f vs) × Asking theory ps e.right s es f vs o) ⊎
    (a ≡ b → ⊥) × Trying theory es f vs o

-- first this, and with its value the rest
abbrev pub Through : (Outcome → Type 0) → (TermTree → Outcome → Type 0) → Outcome → Type 0
Through P Q (gives v n) = (w : TermTree) × (c m : ℕ) × P (gives w c) × Q w (gives v m) × (n ≡ c + m)
Through P Q (meets u) = P (meets u) ⊎ ((w : TermTree) × (c : ℕ) × P (gives w c) × ((u ≡ w) ⊎ Q w (meets u)))

-- a task of the machine, which works over a list of values, the last one first
pub data Task : Type 0 where
  -- a value, which is evaluated again
  put : TermTree → Task
  -- an operation over so many values from the top
  call : ℕ → ℕ → Task
  -- the two values from the top are those of a premise's sides; these premises of the equation, or else these equations, come next, in a
  -- call that began after so many uses
  decide : ConditionalEquation → List Premise → List ConditionalEquation → ℕ → Task

-- the tasks that evaluate a term under what its variables stand for, before those that follow
abbrev mutual
  pub plan : (ℕ → TermTree) → TermTree → List Task → List Task
  plan s (variable x) todo = put (s x) ∷ todo
  plan s (apply f ts) todo = plan_all s ts (call f (width ts) ∷ todo)

  pub plan_all : (ℕ → TermTree) → TermTrees → List Task → List Task
  plan_all s no_terms todo = todo
  plan_all s (and_term t ts) todo = plan s t (plan_all s ts todo)

-- so many values from the top, in the order in which they came, before others
abbrev pub top : ℕ → List TermTree → TermTrees → TermTrees
top zero vals done = done
top (suc k) [] done = done
top (suc k) (v ∷ vals) done = top k vals (and_term v done)

-- P holds of the operation and the arguments of the term
abbrev pub OnCall : TermTree → (ℕ → TermTrees → Type 0) → Type 0
OnCall (variable x) P = ⊥
OnCall (apply f ps) P = P f ps

-- what comes of tasks over values
abbrev pub Comes : Theory → List Task → List TermTree → Outcome → Type 0
Comes theory [] vals (gives v n) = (vals ≡ v ∷ []) × (n ≡ 0)
Comes theory [] vals (meets u) = ⊥
Comes theory (put a ∷ todo) vals o = Through (Evaluating theory a) (λ w. Comes theory todo (w ∷ vals)) o
Comes theory (call f k ∷ todo) vals o =
    Through (Trying theory theory.equations f (top k vals no_terms)) (λ w. Comes theory todo (w ∷ drop k vals)) o
Comes theory (decide e ps es start ∷ todo) [] o = ⊥
Comes theory (decide e ps es start ∷ todo) (b ∷ []) o = ⊥
Comes theory (decide e ps es start ∷ todo) (b ∷ a ∷ vals) o =
    OnCall e.left (λ f pats.
    Through (Deciding theory e ps es f (top (width pats) vals no_terms) a b) (λ w. Comes theory todo (w ∷ drop (width pats) vals)) o)

-- a uses and what the one comes to are b uses and what the other comes to; what the other meets, the one meets; and of what the one meets,
-- the other meets all that is too large
pub record Keeps (P : Outcome → Type 0) (a : ℕ) (Q : Outcome → Type 0) (b : ℕ) : Type 0 where
  pub back : (v : TermTree) (n : ℕ) → Q (gives v n) → (m : ℕ) × P (gives v m) × (a + m ≡ b + n)
  pub on : (v : TermTree) (m : ℕ) → P (gives v m) → (n : ℕ) × Q (gives v n) × (a + m ≡ b + n)
  pub met : (w : TermTree) → Q (meets w) → P (meets w)
  pub large : (w : TermTree) → IsTooLarge w → P (meets w) → Q (meets w)

-- it comes to this value after so many uses, and meets nothing too large
pub record ComesTo (P : Outcome → Type 0) (w : TermTree) (c : ℕ) : Type 0 where
  pub value : P (gives w c)
  pub small : (u : TermTree) → P (meets u) → IsTooLarge u → ⊥
  pub fits : IsTooLarge w → ⊥

-- Where tasks decide a premise of a call, what is left of the call keeps what the whole of it comes to, with the uses counted from those
-- after which it began: so, after so many uses now, with tasks over values.
abbrev pub AreCounted : Theory → ℕ → List Task → List TermTree → Type 0
AreCounted theory uses [] vals = Unit {0}
AreCounted theory uses (put a ∷ todo) vals =
    (w : TermTree) (c : ℕ) → ComesTo (Evaluating theory a) w c → AreCounted theory (uses + c) todo (w ∷ vals)
AreCounted theory uses (call f k ∷ todo) vals =
    (w : TermTree) (c : ℕ) → ComesTo (Trying theory theory.equations f (top k vals no_terms)) w c →
    AreCounted theory (uses + c) todo (w ∷ drop k vals)
AreCounted theory uses (decide e ps es start ∷ todo) [] = Unit {0}
AreCounted theory uses (decide e ps es start ∷ todo) (b ∷ []) = Unit {0}
AreCounted theory uses (decide e ps es start ∷ todo) (b ∷ a ∷ vals) =
    OnCall e.left (λ f pats.
    Keeps (Trying theory theory.equations f (top (width pats) vals no_terms)) start
    (Deciding theory e ps es f (top (width pats) vals no_terms) a b) uses ×
    ((w : TermTree) (c : ℕ) → ComesTo (Deciding theory e ps es f (top (width pats) vals no_terms) a b) w c →
    AreCounted theory (uses + c) todo (w ∷ drop (width pats) vals)))

-- so once it has come to a value, with these tasks over the value and others
abbrev pub AreCountedAfter : Theory → (Outcome → Type 0) → ℕ → List Task → List TermTree → Type 0
AreCountedAfter theory P uses todo vals =
    (w : TermTree) (c : ℕ) → ComesTo P w c → AreCounted theory (uses + c) todo (w ∷ vals)

-- whatever comes of it after a uses takes more uses than the budget
abbrev pub Exceeds : (Outcome → Type 0) → ℕ → ℕ → Type 0
Exceeds P a budget = (v : TermTree) (n : ℕ) → P (gives v n) → budget < a + n
