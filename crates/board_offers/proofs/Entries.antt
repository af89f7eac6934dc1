-- What the rules decide for numbers of offers is for one of these offers.
use Rattle.std.proofs.Common.{ℕ, ◌<◌, subst, List, [], ◌∷◌, Option, Some, None, Bool, true, false}
use Rattle.decision_trees.specs.Known.{where_known}
use Rattle.decision_trees.specs.Rules.{Query, meeting, any, unseen, beyond, any_beyond, beyond_or_unseen, Next, takes, deadlocks, is_beyond}
use Rattle.decision_trees.specs.Rules.{is_not_now, stalls, nothing, Waiting, if_there, if_some, when}
use Rattle.decision_order.specs.Rules.{first_decided, stalled_decided, unseen_decided, waiting_decided, asked_decided, dead_decided}
use Rattle.decision_order.specs.Rules.{marked_decided, unmet_decided, next_decided}
use Rattle.decision_order.specs.Searches.{waiting_of}
use Rattle.board_offers.specs.Laws.{IsForOneOf, EntriesAreForOffers}
use Rattle.board_offers.specs.Numbering.{AreNumbers}

module _ {A : Type 0} (count : ℕ) where
  -- what is decided, if something is, is for one of the offers
  abbrev IsFit : Option (Next ℕ A) → Type 0
  IsFit None = Unit {0}
  IsFit (Some next) = IsForOneOf count next

  known_fits : {X : Type 0} (o : Option X) (f : X → Option (Next ℕ A)) → ((x : X) → IsFit (f x)) → IsFit (where_known o f)
  known_fits None f h = tt
  known_fits (Some x) f h = h x

  there_fits : (r : Option A) (f : A → Option (Next ℕ A)) (rest : Option (Next ℕ A)) → ((a : A) → IsFit (f a)) → IsFit rest →
      IsFit (if_there r f rest)
  there_fits None f rest h k = k
  there_fits (Some a) f rest h k = h a

  when_fits : (b : Bool) (o p : Option (Next ℕ A)) → IsFit o → IsFit p → IsFit (when b o p)
  when_fits true o p h k = h
  when_fits false o p h k = k

  module _ (find : Query ℕ → Option (Option A)) (every : Query ℕ → Option (List A)) (w : Waiting ℕ) (pending : AreNumbers count w.pending)
      (asks : AreNumbers count w.asks) (by_client : AreNumbers count w.by_client) where
    firsts_fit : (query : ℕ → Query ℕ) (entry : ℕ → A → Next ℕ A) (ns : List ℕ) (rest : Option (Next ℕ A)) →
        ((n : ℕ) (a : A) → n < count → IsForOneOf count (entry n a)) → AreNumbers count ns → IsFit rest →
        IsFit (first_decided find every w query entry ns rest)
    firsts_fit query entry [] rest h those k = k
    firsts_fit query entry (n ∷ ns) rest h those k =
        known_fits (find (query n)) (λ r. if_there r (λ a. Some (entry n a)) (first_decided find every w query entry ns rest))
        (λ r. there_fits r (λ a. Some (entry n a)) (first_decided find every w query entry ns rest) (λ a. h n a those.0)
        (firsts_fit query entry ns rest h those.1 k))

    stalled_fits : (ns : List ℕ) → IsFit (Some (if_some ns (λ ps. stalls) nothing))
    stalled_fits [] = tt
    stalled_fits (n ∷ ns) = tt

    dead_fits : (ns : List ℕ) → IsFit (Some (if_some ns (λ ps. deadlocks) nothing))
    dead_fits [] = tt
    dead_fits (n ∷ ns) = tt

    unseen_fits : (those : List A) → IsFit (unseen_decided find every w those)
    unseen_fits [] =
        firsts_fit beyond_or_unseen is_beyond w.by_client (stalled_decided find every w) (λ n a h. h) by_client (stalled_fits w.pending)
    unseen_fits (a ∷ those) = tt

    waiting_fits : IsFit (waiting_decided find every w)
    waiting_fits =
        when_fits w.all_wait (where_known (every unseen) (unseen_decided find every w)) (Some nothing)
        (known_fits (every unseen) (unseen_decided find every w) unseen_fits) tt

    asked_fits : (ns : List ℕ) → AreNumbers count ns → IsFit (asked_decided find every w ns)
    asked_fits [] those = waiting_fits
    asked_fits (n ∷ ns) those = known_fits (find (beyond n)) (λ r. Some (if_there r (is_beyond n) (is_not_now n))) (λ r. answered r)
      where
        answered : (r : Option A) → IsFit (Some (if_there r (is_beyond n) (is_not_now n)))
        answered None = those.0
        answered (Some a) = those.0

    marked_fits : IsFit (marked_decided find every w)
    marked_fits =
        known_fits (find any_beyond) (λ r. if_there r (λ a. asked_decided find every w w.asks) (dead_decided find every w))
        (λ r. there_fits r (λ a. asked_decided find every w w.asks) (dead_decided find every w) (λ a. asked_fits w.asks asks)
        (dead_fits w.pending))

    unmet_fits : IsFit (unmet_decided find every w)
    unmet_fits =
        known_fits (find any) (λ r. if_there r (λ a. asked_decided find every w w.asks) (marked_decided find every w))
        (λ r. there_fits r (λ a. asked_decided find every w w.asks) (marked_decided find every w) (λ a. asked_fits w.asks asks)
        marked_fits)

    pub next_fits : IsFit (next_decided find every w)
    next_fits = firsts_fit meeting takes w.pending (unmet_decided find every w) (λ n a h. h) pending unmet_fits

pub entries_are_for_offers : (A : Type 0) → EntriesAreForOffers A
entries_are_for_offers A count o find every next are e =
    subst (IsFit count) e (next_fits count find every (waiting_of o) are.pending are.asks are.by_client)
