-- What is decided of a decision, search by search.
use Rattle.std.proofs.Common.{◌≡◌, List, [], ◌∷◌, refl, ◌∙◌, Option, Some, None, Bool, true, false}
use Rattle.decision_trees.specs.Decisions.{Decision, ends, asks_items, asks_verdict, after}
use Rattle.decision_trees.specs.Known.{Knowledge, where_known, decided}
use Rattle.decision_trees.specs.Lazy.{Lazy, first_holding, all_holding}
use Rattle.decision_trees.specs.Rules.{Query, meeting, any, unseen, beyond, any_beyond, beyond_or_unseen, Next, takes, deadlocks, is_beyond}
use Rattle.decision_trees.specs.Rules.{is_not_now, goes_on, stalls, nothing, Waiting, if_there, if_some, when, first_answers, waiting_decision}
use Rattle.decision_trees.specs.Rules.{asked_decision, decision}
use Rattle.decision_order.specs.Rules.{first_decided, stalled_decided, unseen_decided, waiting_decided, asked_decided, dead_decided}
use Rattle.decision_order.specs.Rules.{marked_decided, unmet_decided, next_decided}
use Rattle.decision_order.specs.Laws.{DecidedByRules}

known_same : {X R : Type 0} (o : Option X) (f g : X → Option R) → ((x : X) → f x ≡ g x) → where_known o f ≡ where_known o g
known_same None f g h = refl
known_same (Some x) f g h = h x

known_twice : {X Y R : Type 0} (o : Option X) (f : X → Option Y) (g : Y → Option R) (h : X → Option R) →
    ((x : X) → h x ≡ where_known (f x) g) → where_known o h ≡ where_known (where_known o f) g
known_twice None f g h k = refl
known_twice (Some x) f g h k = k x

module _ {I A : Type 0} (known : Knowledge I A) where
  decided_after : {R S : Type 0} (c : Decision I A R) (f : R → Decision I A S) →
      decided known (after c f) ≡ where_known (decided known c) (λ r. decided known (f r))
  decided_after (ends r) f = refl
  decided_after (asks_items g k) f =
      known_twice (known.items g) (λ xs. decided known (k xs)) (λ r. decided known (f r)) (λ xs. decided known (after (k xs) f))
      (λ xs. decided_after (k xs) f)
  decided_after (asks_verdict a k) f =
      known_twice (known.verdict a) (λ b. decided known (k b)) (λ r. decided known (f r)) (λ b. decided known (after (k b) f))
      (λ b. decided_after (k b) f)

  -- a search, and what its result decides
  search : {R S : Type 0} (c : Decision I A R) (f : R → Decision I A S) (g : R → Option S) → ((r : R) → decided known (f r) ≡ g r) →
      decided known (after c f) ≡ where_known (decided known c) g
  search c f g h = decided_after c f ∙ known_same (decided known c) (λ r. decided known (f r)) g h

  module _ {P : Type 0} (lazy : Query P → Lazy I A) (w : Waiting P) where
    abbrev Entry : Type 0
    Entry = Next P A

    abbrev find : Query P → Option (Option A)
    find q = decided known (first_holding (lazy q))

    abbrev all : Query P → Option (List A)
    all q = decided known (all_holding (lazy q))

    by_found : (r : Option A) (f : A → Decision I A Entry) (g : A → Option Entry) (c : Decision I A Entry) (rest : Option Entry) →
        ((a : A) → decided known (f a) ≡ g a) → decided known c ≡ rest → decided known (if_there r f c) ≡ if_there r g rest
    by_found None f g c rest h k = k
    by_found (Some a) f g c rest h k = h a

    firsts : (query : P → Query P) (entry : P → A → Entry) (ps : List P) (c : Decision I A Entry) (rest : Option Entry) →
        decided known c ≡ rest →
        decided known (first_answers lazy w query entry ps c) ≡ first_decided find all w query entry ps rest
    firsts query entry [] c rest h = h
    firsts query entry (p ∷ ps) c rest h =
        search (first_holding (lazy (query p)))
        (λ r. if_there r (λ a. ends (entry p a)) (first_answers lazy w query entry ps c))
        (λ r. if_there r (λ a. Some (entry p a)) (first_decided find all w query entry ps rest))
        (λ r. by_found r (λ a. ends (entry p a)) (λ a. Some (entry p a)) (first_answers lazy w query entry ps c)
        (first_decided find all w query entry ps rest) (λ a. refl) (firsts query entry ps c rest h))

    abbrev unseen_decision : List A → Decision I A Entry
    unseen_decision those =
        if_some those (λ them. ends (goes_on them))
        (first_answers lazy w beyond_or_unseen is_beyond w.by_client (ends (if_some w.pending (λ ps. stalls) nothing)))

    unseen_is : (those : List A) → decided known (unseen_decision those) ≡ unseen_decided find all w those
    unseen_is [] =
        firsts beyond_or_unseen is_beyond w.by_client (ends (if_some w.pending (λ ps. stalls) nothing)) (stalled_decided find all w) refl
    unseen_is (a ∷ those) = refl

    when_decided : (b : Bool) (c d : Decision I A Entry) (o p : Option Entry) → decided known c ≡ o → decided known d ≡ p →
        decided known (when b c d) ≡ when b o p
    when_decided true c d o p h k = h
    when_decided false c d o p h k = k

    waiting_is : decided known (waiting_decision lazy w) ≡ waiting_decided find all w
    waiting_is =
        when_decided w.all_wait (after (all_holding (lazy unseen)) unseen_decision) (ends nothing)
        (where_known (all unseen) (unseen_decided find all w)) (Some nothing)
        (search (all_holding (lazy unseen)) unseen_decision (unseen_decided find all w) unseen_is) refl

    asked_is : (ps : List P) → decided known (asked_decision lazy w ps) ≡ asked_decided find all w ps
    asked_is [] = waiting_is
    asked_is (p ∷ ps) =
        search (first_holding (lazy (beyond p))) (λ r. ends (if_there r (is_beyond p) (is_not_now p)))
        (λ r. Some (if_there r (is_beyond p) (is_not_now p))) (λ r. refl)

    abbrev dead_decision : Decision I A Entry
    dead_decision = ends (if_some w.pending (λ ps. deadlocks) nothing)

    abbrev marked_decision : Option A → Decision I A Entry
    marked_decision r = if_there r (λ a. asked_decision lazy w w.asks) dead_decision

    marked_is : decided known (after (first_holding (lazy any_beyond)) marked_decision) ≡ marked_decided find all w
    marked_is =
        search (first_holding (lazy any_beyond)) marked_decision
        (λ r. if_there r (λ a. asked_decided find all w w.asks) (dead_decided find all w))
        (λ r. by_found r (λ a. asked_decision lazy w w.asks) (λ a. asked_decided find all w w.asks) dead_decision (dead_decided find all w)
        (λ a. asked_is w.asks) refl)

    abbrev unmet_decision : Option A → Decision I A Entry
    unmet_decision r = if_there r (λ a. asked_decision lazy w w.asks) (after (first_holding (lazy any_beyond)) marked_decision)

    pub decision_is : decided known (decision lazy w) ≡ next_decided find all w
    decision_is =
        firsts meeting takes w.pending (after (first_holding (lazy any)) unmet_decision) (unmet_decided find all w)
        (search (first_holding (lazy any)) unmet_decision
        (λ r. if_there r (λ a. asked_decided find all w w.asks) (marked_decided find all w))
        (λ r. by_found r (λ a. asked_decision lazy w w.asks) (λ a. asked_decided find all w w.asks)
        (after (first_holding (lazy any_beyond)) marked_decision) (marked_decided find all w) (λ a. asked_is w.asks) marked_is))

pub decided_by_rules : (I P A : Type 0) → DecidedByRules I P A
decided_by_rules I P A lazy w known = decision_is known lazy w
