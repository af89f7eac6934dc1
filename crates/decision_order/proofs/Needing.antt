-- What the walk along the decision of the rules finds, search by search.
use Rattle.std.proofs.Common.{◌≡◌, ◌++◌, List, [], ◌∷◌, refl, ap, ◌∙◌, Option, Some, None, Bool, true, false, is_some}
use Rattle.std.proofs.lemmas.List.{append-nil}
use Rattle.decision_trees.specs.Decisions.{Question, Decision, ends, after}
use Rattle.decision_trees.specs.Known.{Knowledge, found}
use Rattle.decision_trees.specs.Lazy.{Lazy, first, first_holding, all_holding}
use Rattle.decision_trees.specs.Gaps.{with_gaps, known_to_hold}
use Rattle.decision_trees.specs.Rules.{Query, meeting, any, unseen, beyond, any_beyond, beyond_or_unseen, Next, takes, deadlocks, is_beyond}
use Rattle.decision_trees.specs.Rules.{is_not_now, goes_on, stalls, nothing, Waiting, if_there, if_some, when, first_answers, waiting_decision}
use Rattle.decision_trees.specs.Rules.{asked_decision, decision}
use Rattle.decision_trees.proofs.Needing.{found_after}
use Rattle.decision_trees.proofs.Gaps.{first_held, all_held}
use Rattle.decision_order.specs.Needed.{first_needed, unseen_needed, waiting_needed, asked_needed, marked_needed, unmet_needed, next_needed}
use Rattle.decision_order.specs.Laws.{NeededByRules, is_held}

module _ {I P A : Type 0} (known : Knowledge I A) (lazy : Query P → Lazy I A) (w : Waiting P) where
  abbrev Entry : Type 0
  Entry = Next P A

  abbrev missing : Query P → List (Question A)
  missing q = found known (first_holding (lazy q))

  abbrev every_missing : Query P → List (Question A)
  every_missing q = found known (all_holding (lazy q))

  abbrev is_there : Query P → Bool
  is_there q = is_held known (lazy q)

  abbrev held : Query P → List A
  held q = known_to_hold known.verdict (with_gaps known.items (lazy q))

  by_first : (r : Option A) (f : A → Decision I A Entry) (c : Decision I A Entry) (xs ys : List (Question A)) →
      ((a : A) → found known (f a) ≡ xs) → found known c ≡ ys → found known (if_there r f c) ≡ when (is_some r) xs ys
  by_first None f c xs ys h k = k
  by_first (Some a) f c xs ys h k = h a

  by_all : (those : List A) (f : List A → Decision I A Entry) (c : Decision I A Entry) (xs ys : List (Question A)) →
      ((all : List A) → found known (f all) ≡ xs) → found known c ≡ ys → found known (if_some those f c) ≡ when (is_some (first those)) xs ys
  by_all [] f c xs ys h k = k
  by_all (a ∷ those) f c xs ys h k = h (a ∷ those)

  -- a search for the first, and what is asked behind it
  search : (q : Query P) (f : A → Decision I A Entry) (c : Decision I A Entry) (xs ys : List (Question A)) →
      ((a : A) → found known (f a) ≡ xs) → found known c ≡ ys →
      found known (after (first_holding (lazy q)) (λ r. if_there r f c)) ≡ missing q ++ when (is_there q) xs ys
  search q f c xs ys h k =
      found_after I A (Option A) Entry known (first_holding (lazy q)) (λ r. if_there r f c)
      ∙ ap (λ r. missing q ++ found known (if_there r f c)) (first_held known (lazy q))
      ∙ ap (λ qs. missing q ++ qs) (by_first (first (held q)) f c xs ys h k)

  firsts : (query : P → Query P) (entry : P → A → Entry) (ps : List P) (c : Decision I A Entry) (rest : List (Question A)) →
      found known c ≡ rest →
      found known (first_answers lazy w query entry ps c) ≡ first_needed missing every_missing is_there w query ps rest
  firsts query entry [] c rest h = h
  firsts query entry (p ∷ ps) c rest h =
      search (query p) (λ a. ends (entry p a)) (first_answers lazy w query entry ps c) []
      (first_needed missing every_missing is_there w query ps rest) (λ a. refl) (firsts query entry ps c rest h)

  abbrev stalled_decision : Decision I A Entry
  stalled_decision = ends (if_some w.pending (λ ps. stalls) nothing)

  abbrev beyond_decision : Decision I A Entry
  beyond_decision = first_answers lazy w beyond_or_unseen is_beyond w.by_client stalled_decision

  abbrev unseen_decision : List A → Decision I A Entry
  unseen_decision those = if_some those (λ them. ends (goes_on them)) beyond_decision

  unseen_is : found known (after (all_holding (lazy unseen)) unseen_decision) ≡ unseen_needed missing every_missing is_there w
  unseen_is =
      found_after I A (List A) Entry known (all_holding (lazy unseen)) unseen_decision
      ∙ ap (λ those. every_missing unseen ++ found known (unseen_decision those)) (all_held known (lazy unseen))
      ∙ ap (λ qs. every_missing unseen ++ qs)
      (by_all (held unseen) (λ them. ends (goes_on them)) beyond_decision []
      (first_needed missing every_missing is_there w beyond_or_unseen w.by_client []) (λ all. refl)
      (firsts beyond_or_unseen is_beyond w.by_client stalled_decision [] refl))

  when_found : (b : Bool) (c d : Decision I A Entry) (xs ys : List (Question A)) → found known c ≡ xs → found known d ≡ ys →
      found known (when b c d) ≡ when b xs ys
  when_found true c d xs ys h k = h
  when_found false c d xs ys h k = k

  waiting_is : found known (waiting_decision lazy w) ≡ waiting_needed missing every_missing is_there w
  waiting_is =
      when_found w.all_wait (after (all_holding (lazy unseen)) unseen_decision) (ends nothing)
      (unseen_needed missing every_missing is_there w) [] unseen_is refl

  asked_is : (ps : List P) → found known (asked_decision lazy w ps) ≡ asked_needed missing every_missing is_there w ps
  asked_is [] = waiting_is
  asked_is (p ∷ ps) =
      found_after I A (Option A) Entry known (first_holding (lazy (beyond p))) (λ r. ends (if_there r (is_beyond p) (is_not_now p)))
      ∙ append-nil (missing (beyond p))

  abbrev dead_decision : Decision I A Entry
  dead_decision = ends (if_some w.pending (λ ps. deadlocks) nothing)

  abbrev marked_decision : Decision I A Entry
  marked_decision = after (first_holding (lazy any_beyond)) (λ r. if_there r (λ a. asked_decision lazy w w.asks) dead_decision)

  marked_is : found known marked_decision ≡ marked_needed missing every_missing is_there w
  marked_is =
      search any_beyond (λ a. asked_decision lazy w w.asks) dead_decision (asked_needed missing every_missing is_there w w.asks) []
      (λ a. asked_is w.asks) refl

  abbrev unmet_decision : Decision I A Entry
  unmet_decision = after (first_holding (lazy any)) (λ r. if_there r (λ a. asked_decision lazy w w.asks) marked_decision)

  unmet_is : found known unmet_decision ≡ unmet_needed missing every_missing is_there w
  unmet_is =
      search any (λ a. asked_decision lazy w w.asks) marked_decision (asked_needed missing every_missing is_there w w.asks)
      (marked_needed missing every_missing is_there w) (λ a. asked_is w.asks) marked_is

  pub decision_is : found known (decision lazy w) ≡ next_needed missing every_missing is_there w
  decision_is = firsts meeting takes w.pending unmet_decision (unmet_needed missing every_missing is_there w) unmet_is

pub needed_by_rules : (I P A : Type 0) → NeededByRules I P A
needed_by_rules I P A lazy w known = decision_is known lazy w
