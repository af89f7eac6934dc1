-- What follows from the definitions.
use Rattle.std.specs.Prelude.{ℕ, ◌≡◌, List, Option, option_map, Bool, is_some}
use Rattle.decision_trees.specs.Known.{Knowledge, decided, found}
use Rattle.decision_trees.specs.Lazy.{Lazy, first, first_holding, all_holding}
use Rattle.decision_trees.specs.Gaps.{with_gaps, known_to_hold}
use Rattle.decision_trees.specs.Rules.{Query, Waiting, decision}
use Rattle.decision_order.specs.Rules.{next_decided}
use Rattle.decision_order.specs.Needed.{next_needed}
use Rattle.decision_order.specs.Numbered.{query_with, entry_with, waiting_with}

-- what the rules decide from searches over what is known is what is decided of their decision
abbrev pub DecidedByRules : (I P A : Type 0) → Type 0
DecidedByRules I P A =
    (lazy : Query P → Lazy I A) (w : Waiting P) (known : Knowledge I A) →
    decided known (decision lazy w) ≡
    next_decided (λ q. decided known (first_holding (lazy q))) (λ q. decided known (all_holding (lazy q))) w

-- a candidate of the list is known to hold
abbrev pub is_held : {I A : Type 0} → Knowledge I A → Lazy I A → Bool
is_held known l = is_some (first (known_to_hold known.verdict (with_gaps known.items l)))

-- what searches over what is known still ask by the rules is what the walk along their decision finds
abbrev pub NeededByRules : (I P A : Type 0) → Type 0
NeededByRules I P A =
    (lazy : Query P → Lazy I A) (w : Waiting P) (known : Knowledge I A) →
    found known (decision lazy w) ≡
    next_needed (λ q. found known (first_holding (lazy q))) (λ q. found known (all_holding (lazy q))) (λ q. is_held known (lazy q)) w

-- what is decided and asked of numbers of offers is decided and asked of the offers for which they stand
pub record NumbersStandForThem (P A Q : Type 0) : Type 0 where
  pub decided : (offer : ℕ → P) (find : Query P → Option (Option A)) (every : Query P → Option (List A)) (w : Waiting ℕ) →
      next_decided find every (waiting_with offer w) ≡
      option_map (entry_with offer) (next_decided (λ q. find (query_with offer q)) (λ q. every (query_with offer q)) w)
  pub needed : (offer : ℕ → P) (missing every_missing : Query P → List Q) (is_there : Query P → Bool) (w : Waiting ℕ) →
      next_needed missing every_missing is_there (waiting_with offer w) ≡
      next_needed (λ q. missing (query_with offer q)) (λ q. every_missing (query_with offer q)) (λ q. is_there (query_with offer q)) w
