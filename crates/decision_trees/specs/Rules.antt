-- The rules by which a session goes on (this profile), over whole lists of trees, and as one tree of questions.
use Rattle.std.specs.Prelude.{List, [], ◌∷◌, Option, Some, None, Bool, true, false}
use Rattle.decision_trees.specs.Decisions.{Decision, ends, after}
use Rattle.decision_trees.specs.Lazy.{Lazy, first, first_holding, all_holding}

-- which trees are looked for, where P is what is pending: those within the windows that meet an offer, all of them, and those that are
-- unseen; those with marks for an offer, all of them, and those that are unseen or for an offer
pub data Query (P : Type 0) : Type 0 where
  meeting : P → Query P
  any : Query P
  unseen : Query P
  beyond : P → Query P
  any_beyond : Query P
  beyond_or_unseen : P → Query P

-- what comes next: an offer is taken by a tree; all is answered deadlock; an offer is answered beyond, with a tree, or not now; one of
-- these unseen trees acts, which the seed chooses; all offers are stalled; nothing
pub data Next (P A : Type 0) : Type 0 where
  takes : P → A → Next P A
  deadlocks : Next P A
  is_beyond : P → A → Next P A
  is_not_now : P → Next P A
  goes_on : List A → Next P A
  stalls : Next P A
  nothing : Next P A

-- the pending offers in the order of the log, those that only ask by client, all of them by client, and whether each open client has one
pub record Waiting (P : Type 0) : Type 0 where
  pub pending : List P
  pub asks : List P
  pub by_client : List P
  pub all_wait : Bool

-- one thing where there is something, another where there is nothing

abbrev pub if_there : {A X : Type 0} → Option A → (A → X) → X → X
if_there None f x = x
if_there (Some a) f x = f a

abbrev pub if_some : {A X : Type 0} → List A → (List A → X) → X → X
if_some [] f x = x
if_some (a ∷ others) f x = f (a ∷ others)

abbrev pub when : {X : Type 0} → Bool → X → X → X
when true x y = x
when false x y = y

-- The rules over the whole list of each query, tried one after another.
module _ {P A : Type 0} (lists : Query P → List A) (w : Waiting P) where
  -- the first of these offers for which there is such a tree, with the first one; else what comes behind
  abbrev pub first_answered : (P → Query P) → (P → A → Next P A) → List P → Next P A → Next P A
  first_answered query entry [] rest = rest
  first_answered query entry (p ∷ ps) rest = if_there (first (lists (query p))) (entry p) (first_answered query entry ps rest)

  -- all that is pending is stalled
  abbrev pub stalled_next : Next P A
  stalled_next = if_some w.pending (λ ps. stalls) nothing

  -- each open client waits: an unseen tree acts; else an offer is answered beyond; else there is a stall
  abbrev pub waiting_next : Next P A
  waiting_next = when w.all_wait
      (if_some (lists unseen) goes_on (first_answered beyond_or_unseen is_beyond w.by_client stalled_next))
      nothing

  -- the first offer that only asks is answered
  abbrev pub asked_next : List P → Next P A
  asked_next [] = waiting_next
  asked_next (p ∷ ps) = if_there (first (lists (beyond p))) (is_beyond p) (is_not_now p)

  -- there is no tree at all
  abbrev pub dead_next : Next P A
  dead_next = if_some w.pending (λ ps. deadlocks) nothing

  -- a tree meets a pending offer; there is no tree at all; an offer asks; each open client waits
  abbrev pub next_of : Next P A
  next_of = first_answered meeting takes w.pending
      (if_there (first (lists any)) (λ a. asked_next w.asks)
      (if_there (first (lists any_beyond)) (λ a. asked_next w.asks) dead_next))

-- The same rules as a decision, which asks no more than it needs.
module _ {I P A : Type 0} (lazy : Query P → Lazy I A) (w : Waiting P) where
  abbrev pub first_answers : (P → Query P) → (P → A → Next P A) → List P → Decision I A (Next P A) → Decision I A (Next P A)
  first_answers query entry [] rest = rest
  first_answers query entry (p ∷ ps) rest =
      after (first_holding (lazy (query p))) (λ r. if_there r (λ a. ends (entry p a)) (first_answers query entry ps rest))

  abbrev pub waiting_decision : Decision I A (Next P A)
  waiting_decision = when w.all_wait
      (after (all_holding (lazy unseen)) (λ all. if_some all (λ bs. ends (goes_on bs))
      (first_answers beyond_or_unseen is_beyond w.by_client (ends (if_some w.pending (λ ps. stalls) nothing)))))
      (ends nothing)

  abbrev pub asked_decision : List P → Decision I A (Next P A)
  asked_decision [] = waiting_decision
  asked_decision (p ∷ ps) = after (first_holding (lazy (beyond p))) (λ r. ends (if_there r (is_beyond p) (is_not_now p)))

  abbrev pub decision : Decision I A (Next P A)
  decision = first_answers meeting takes w.pending
      (after (first_holding (lazy any)) (λ r. if_there r (λ a. asked_decision w.asks)
      (after (first_holding (lazy any_beyond)) (λ q. if_there q (λ a. asked_decision w.asks)
      (ends (if_some w.pending (λ ps. deadlocks) nothing))))))
