-- The entry over candidates is the entry over their trees.
use Rattle.std.proofs.Common.{◌≡◌, List, [], ◌∷◌, map, refl, Bool, true, false}
use Rattle.rule_model.specs.Derivations.{Derivation}
use Rattle.rule_model.specs.States.{PendingOffer}
use Rattle.decision_trees.specs.Lazy.{first}
use Rattle.decision_trees.specs.Rules.{Next, Waiting, meeting, any, unseen, beyond, any_beyond, beyond_or_unseen, takes, deadlocks, is_beyond}
use Rattle.decision_trees.specs.Rules.{is_not_now, goes_on, stalls, nothing, if_there, if_some, when, first_answered, stalled_next, waiting_next}
use Rattle.decision_trees.specs.Rules.{asked_next, dead_next, next_of}
use Rattle.candidate_laws.specs.Asked.{TreeQuery}
use Rattle.candidate_laws.specs.Waiting.{Candidate, with_trees}

abbrev Entry : Type 0
Entry = Next PendingOffer Candidate

abbrev Plain : Type 0
Plain = Next PendingOffer Derivation

abbrev tree_of : Candidate → Derivation
tree_of a = a.tree

there_same : (all : List Candidate) (f : Candidate → Entry) (g : Derivation → Plain) (x : Entry) (y : Plain) →
    ((a : Candidate) → with_trees (f a) ≡ g a.tree) → with_trees x ≡ y →
    with_trees (if_there (first all) f x) ≡ if_there (first (map tree_of all)) g y
there_same [] f g x y h i = i
there_same (a ∷ all) f g x y h i = h a

some_same : (all : List Candidate) (f : List Candidate → Entry) (g : List Derivation → Plain) (x : Entry) (y : Plain) →
    ((those : List Candidate) → with_trees (f those) ≡ g (map tree_of those)) → with_trees x ≡ y →
    with_trees (if_some all f x) ≡ if_some (map tree_of all) g y
some_same [] f g x y h i = i
some_same (a ∷ all) f g x y h i = h (a ∷ all)

module _ (lists : TreeQuery → List Candidate) (state : Waiting PendingOffer) where
  abbrev plain : TreeQuery → List Derivation
  plain q = map tree_of (lists q)

  answered_same : (query : PendingOffer → TreeQuery) (f : PendingOffer → Candidate → Entry) (g : PendingOffer → Derivation → Plain)
      (offers : List PendingOffer) (x : Entry) (y : Plain) → ((p : PendingOffer) (a : Candidate) → with_trees (f p a) ≡ g p a.tree) →
      with_trees x ≡ y → with_trees (first_answered lists state query f offers x) ≡ first_answered plain state query g offers y
  answered_same query f g [] x y h i = i
  answered_same query f g (p ∷ offers) x y h i =
      there_same (lists (query p)) (f p) (g p) (first_answered lists state query f offers x) (first_answered plain state query g offers y)
      (h p) (answered_same query f g offers x y h i)

  pending_same : (offers : List PendingOffer) (x : Entry) (y : Plain) → with_trees x ≡ y →
      with_trees (if_some offers (λ ps. x) nothing) ≡ if_some offers (λ ps. y) nothing
  pending_same [] x y h = refl
  pending_same (p ∷ offers) x y h = h

  when_same : (b : Bool) (x : Entry) (y : Plain) → with_trees x ≡ y → with_trees (when b x nothing) ≡ when b y nothing
  when_same true x y h = h
  when_same false x y h = refl

  waiting_same : with_trees (waiting_next lists state) ≡ waiting_next plain state
  waiting_same =
      when_same state.all_wait
      (if_some (lists unseen) goes_on (first_answered lists state beyond_or_unseen is_beyond state.by_client (stalled_next lists state)))
      (if_some (plain unseen) goes_on (first_answered plain state beyond_or_unseen is_beyond state.by_client (stalled_next plain state)))
      (some_same (lists unseen) goes_on goes_on
      (first_answered lists state beyond_or_unseen is_beyond state.by_client (stalled_next lists state))
      (first_answered plain state beyond_or_unseen is_beyond state.by_client (stalled_next plain state)) (λ those. refl)
      (answered_same beyond_or_unseen is_beyond is_beyond state.by_client (stalled_next lists state) (stalled_next plain state)
      (λ p a. refl) (pending_same state.pending stalls stalls refl)))

  asked_same : (offers : List PendingOffer) → with_trees (asked_next lists state offers) ≡ asked_next plain state offers
  asked_same [] = waiting_same
  asked_same (p ∷ offers) =
      there_same (lists (beyond p)) (is_beyond p) (is_beyond p) (is_not_now p) (is_not_now p) (λ a. refl) refl

  pub next_same : with_trees (next_of lists state) ≡ next_of plain state
  next_same =
      answered_same meeting takes takes state.pending
      (if_there (first (lists any)) (λ a. asked_next lists state state.asks)
      (if_there (first (lists any_beyond)) (λ a. asked_next lists state state.asks) (dead_next lists state)))
      (if_there (first (plain any)) (λ a. asked_next plain state state.asks)
      (if_there (first (plain any_beyond)) (λ a. asked_next plain state state.asks) (dead_next plain state))) (λ p a. refl)
      (there_same (lists any) (λ a. asked_next lists state state.asks) (λ a. asked_next plain state state.asks)
      (if_there (first (lists any_beyond)) (λ a. asked_next lists state state.asks) (dead_next lists state))
      (if_there (first (plain any_beyond)) (λ a. asked_next plain state state.asks) (dead_next plain state)) (λ a. asked_same state.asks)
      (there_same (lists any_beyond) (λ a. asked_next lists state state.asks) (λ a. asked_next plain state state.asks)
      (dead_next lists state) (dead_next plain state) (λ a. asked_same state.asks)
      (pending_same state.pending deadlocks deadlocks refl)))
