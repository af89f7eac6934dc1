-- What is decided of numbers of offers is decided of the offers.
use Rattle.std.proofs.Common.{ℕ, ◌≡◌, List, [], ◌∷◌, ◌++◌, map, refl, ap, ◌∙◌, Option, Some, None, option_map, Bool, true, false}
use Rattle.decision_trees.specs.Known.{where_known}
use Rattle.decision_trees.specs.Rules.{Query, meeting, any, unseen, beyond, any_beyond, beyond_or_unseen, Next, takes, deadlocks, is_beyond}
use Rattle.decision_trees.specs.Rules.{is_not_now, stalls, nothing, Waiting, if_there, if_some, when}
use Rattle.decision_order.specs.Rules.{first_decided, stalled_decided, unseen_decided, waiting_decided, asked_decided, dead_decided}
use Rattle.decision_order.specs.Rules.{marked_decided, unmet_decided, next_decided}
use Rattle.decision_order.specs.Needed.{first_needed, unseen_needed, asked_needed, marked_needed, unmet_needed, next_needed}
use Rattle.decision_order.specs.Numbered.{query_with, entry_with, waiting_with}
use Rattle.decision_order.specs.Laws.{NumbersStandForThem}

module _ {P A : Type 0} (offer : ℕ → P) (find : Query P → Option (Option A)) (every : Query P → Option (List A)) (w : Waiting ℕ) where
  abbrev Entry : Type 0
  Entry = Option (Next P A)

  abbrev of : Option (Next ℕ A) → Entry
  of o = option_map (entry_with offer) o

  abbrev them : Waiting P
  them = waiting_with offer w

  -- searches by number
  abbrev find_it : Query ℕ → Option (Option A)
  find_it q = find (query_with offer q)

  abbrev all_of_it : Query ℕ → Option (List A)
  all_of_it q = every (query_with offer q)

  -- what a search decides

  searched : (o : Option (Option A)) (f : A → Option (Next ℕ A)) (g : A → Entry) (x : Option (Next ℕ A)) (y : Entry) →
      ((a : A) → g a ≡ of (f a)) → y ≡ of x → where_known o (λ r. if_there r g y) ≡ of (where_known o (λ r. if_there r f x))
  searched None f g x y h k = refl
  searched (Some None) f g x y h k = k
  searched (Some (Some a)) f g x y h k = h a

  firsts : (query : ℕ → Query ℕ) (query_them : P → Query P) (entry : ℕ → A → Next ℕ A) (entry_them : P → A → Next P A) →
      ((p : ℕ) → query_them (offer p) ≡ query_with offer (query p)) →
      ((p : ℕ) (a : A) → entry_them (offer p) a ≡ entry_with offer (entry p a)) →
      (ps : List ℕ) (x : Option (Next ℕ A)) (y : Entry) → y ≡ of x →
      first_decided find every them query_them entry_them (map offer ps) y ≡ of (first_decided find_it all_of_it w query entry ps x)
  firsts query query_them entry entry_them asks says [] x y k = k
  firsts query query_them entry entry_them asks says (p ∷ ps) x y k =
      ap (λ z. where_known (find z) (λ r. if_there r (λ a. Some (entry_them (offer p) a))
      (first_decided find every them query_them entry_them (map offer ps) y))) (asks p)
      ∙ searched (find_it (query p)) (λ a. Some (entry p a)) (λ a. Some (entry_them (offer p) a))
      (first_decided find_it all_of_it w query entry ps x) (first_decided find every them query_them entry_them (map offer ps) y)
      (λ a. ap Some (says p a)) (firsts query query_them entry entry_them asks says ps x y k)

  some_pending : (ps : List ℕ) (x : Next ℕ A) (y : Next P A) → y ≡ entry_with offer x →
      if_some (map offer ps) (λ z. y) nothing ≡ entry_with offer (if_some ps (λ z. x) nothing)
  some_pending [] x y k = refl
  some_pending (p ∷ ps) x y k = k

  stalled_is : stalled_decided find every them ≡ of (stalled_decided find_it all_of_it w)
  stalled_is = ap Some (some_pending w.pending stalls stalls refl)

  dead_is : dead_decided find every them ≡ of (dead_decided find_it all_of_it w)
  dead_is = ap Some (some_pending w.pending deadlocks deadlocks refl)

  unseen_is : (those : List A) → unseen_decided find every them those ≡ of (unseen_decided find_it all_of_it w those)
  unseen_is [] =
      firsts beyond_or_unseen beyond_or_unseen is_beyond is_beyond (λ p. refl) (λ p a. refl) w.by_client
      (stalled_decided find_it all_of_it w) (stalled_decided find every them) stalled_is
  unseen_is (a ∷ those) = refl

  all_found : (o : Option (List A)) →
      where_known o (unseen_decided find every them) ≡ of (where_known o (unseen_decided find_it all_of_it w))
  all_found None = refl
  all_found (Some those) = unseen_is those

  when_is : (b : Bool) (x : Option (Next ℕ A)) (y : Entry) → y ≡ of x → when b y (Some nothing) ≡ of (when b x (Some nothing))
  when_is true x y k = k
  when_is false x y k = refl

  waiting_is : waiting_decided find every them ≡ of (waiting_decided find_it all_of_it w)
  waiting_is =
      when_is w.all_wait (where_known (every unseen) (unseen_decided find_it all_of_it w))
      (where_known (every unseen) (unseen_decided find every them)) (all_found (every unseen))

  asked_found : (p : ℕ) (o : Option (Option A)) →
      where_known o (λ r. Some (if_there r (is_beyond (offer p)) (is_not_now (offer p)))) ≡
      of (where_known o (λ r. Some (if_there r (is_beyond p) (is_not_now p))))
  asked_found p None = refl
  asked_found p (Some None) = refl
  asked_found p (Some (Some a)) = refl

  asked_is : (ps : List ℕ) → asked_decided find every them (map offer ps) ≡ of (asked_decided find_it all_of_it w ps)
  asked_is [] = waiting_is
  asked_is (p ∷ ps) = asked_found p (find (beyond (offer p)))

  marked_is : marked_decided find every them ≡ of (marked_decided find_it all_of_it w)
  marked_is =
      searched (find any_beyond) (λ a. asked_decided find_it all_of_it w w.asks) (λ a. asked_decided find every them them.asks)
      (dead_decided find_it all_of_it w) (dead_decided find every them) (λ a. asked_is w.asks) dead_is

  unmet_is : unmet_decided find every them ≡ of (unmet_decided find_it all_of_it w)
  unmet_is =
      searched (find any) (λ a. asked_decided find_it all_of_it w w.asks) (λ a. asked_decided find every them them.asks)
      (marked_decided find_it all_of_it w) (marked_decided find every them) (λ a. asked_is w.asks) marked_is

  pub next_is : next_decided find every them ≡ of (next_decided find_it all_of_it w)
  next_is =
      firsts meeting meeting takes takes (λ p. refl) (λ p a. refl) w.pending (unmet_decided find_it all_of_it w)
      (unmet_decided find every them) unmet_is

module _ {P Q : Type 0} (offer : ℕ → P) (missing every_missing : Query P → List Q) (is_there : Query P → Bool) (w : Waiting ℕ) where
  -- searches by number
  abbrev missing_it : Query ℕ → List Q
  missing_it q = missing (query_with offer q)

  abbrev every_it : Query ℕ → List Q
  every_it q = every_missing (query_with offer q)

  abbrev there_it : Query ℕ → Bool
  there_it q = is_there (query_with offer q)

  firsts_needed : (query : ℕ → Query ℕ) (query_them : P → Query P) → ((p : ℕ) → query_them (offer p) ≡ query_with offer (query p)) →
      (ps : List ℕ) (xs ys : List Q) → xs ≡ ys →
      first_needed missing every_missing is_there (waiting_with offer w) query_them (map offer ps) xs ≡
      first_needed missing_it every_it there_it w query ps ys
  firsts_needed query query_them asks [] xs ys e = e
  firsts_needed query query_them asks (p ∷ ps) xs ys e =
      ap (λ q. missing q ++ when (is_there q) []
      (first_needed missing every_missing is_there (waiting_with offer w) query_them (map offer ps) xs)) (asks p)
      ∙ ap (λ qs. missing_it (query p) ++ when (there_it (query p)) [] qs) (firsts_needed query query_them asks ps xs ys e)

  unseen_asks : unseen_needed missing every_missing is_there (waiting_with offer w) ≡ unseen_needed missing_it every_it there_it w
  unseen_asks =
      ap (λ qs. every_missing unseen ++ when (is_there unseen) [] qs)
      (firsts_needed beyond_or_unseen beyond_or_unseen (λ p. refl) w.by_client [] [] refl)

  ask_asks : (ps : List ℕ) → asked_needed missing every_missing is_there (waiting_with offer w) (map offer ps) ≡
      asked_needed missing_it every_it there_it w ps
  ask_asks [] = ap (λ qs. when w.all_wait qs []) unseen_asks
  ask_asks (p ∷ ps) = refl

  marked_asks : marked_needed missing every_missing is_there (waiting_with offer w) ≡ marked_needed missing_it every_it there_it w
  marked_asks = ap (λ qs. missing any_beyond ++ when (is_there any_beyond) qs []) (ask_asks w.asks)

  unmet_asks : unmet_needed missing every_missing is_there (waiting_with offer w) ≡ unmet_needed missing_it every_it there_it w
  unmet_asks =
      ap (λ qs. missing any ++ when (is_there any) qs (marked_needed missing every_missing is_there (waiting_with offer w))) (ask_asks w.asks)
      ∙ ap (λ qs. missing any ++ when (is_there any) (asked_needed missing_it every_it there_it w w.asks) qs) marked_asks

  pub next_asks : next_needed missing every_missing is_there (waiting_with offer w) ≡ next_needed missing_it every_it there_it w
  next_asks =
      firsts_needed meeting meeting (λ p. refl) w.pending (unmet_needed missing every_missing is_there (waiting_with offer w))
      (unmet_needed missing_it every_it there_it w) unmet_asks

pub numbers_stand_for_them : (P A Q : Type 0) → NumbersStandForThem P A Q
numbers_stand_for_them P A Q = record { decided = next_is; needed = next_asks }
