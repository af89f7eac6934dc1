-- Replies, without places in memory.
use Rattle.std.specs.Prelude.{ℕ, List}
use Rattle.spec_core.specs.Terms.{TermTree, term_of}
use Rattle.rule_model.specs.declared.reply.LimitKind.{LimitKind}
use Rattle.rule_model.specs.declared.reply.Reply.{Reply}
use Rattle.rule_model.specs.declared.reply.Reply.TheVariants.{Taken, Deadlock, Stalled, Beyond, NotNow, Ended, Spent, TooLarge, Limit}
use Rattle.rule_model.specs.Derivations.{Derivation, derivation_of}

-- the reply to an offer, with the number of actions before it
pub data Answer : Type 0 where
  taken : ℕ → List (List ℕ) → Answer
  deadlock : ℕ → Answer
  stalls : ℕ → Answer
  beyond : ℕ → Derivation → Answer
  not_now : ℕ → Answer
  ended : ℕ → Answer
  spent : ℕ → TermTree → Answer
  too_large : ℕ → TermTree → Answer
  limit : ℕ → LimitKind → Answer

abbrev pub answer_of : Reply → Answer
answer_of (Taken at values) = taken at values
answer_of (Deadlock at) = deadlock at
answer_of (Stalled at) = stalls at
answer_of (Beyond at rules) = beyond at (derivation_of rules)
answer_of (NotNow at) = not_now at
answer_of (Ended at) = ended at
answer_of (Spent at term) = spent at (term_of term)
answer_of (TooLarge at term) = too_large at (term_of term)
answer_of (Limit at kind) = limit at kind
