-- The trees of entries that the rules decide are found by searches.
use Rattle.std.proofs.Common.{◌≡◌, List, [], ◌∷◌, refl, subst, Option, Some, None, Bool, true, false}
use Rattle.decision_trees.specs.Known.{where_known}
use Rattle.decision_trees.specs.Rules.{Query, meeting, any, unseen, beyond, any_beyond, beyond_or_unseen, Waiting, Next, takes, deadlocks, is_beyond}
use Rattle.decision_trees.specs.Rules.{is_not_now, goes_on, stalls, nothing, if_there, if_some, when}
use Rattle.decision_order.specs.Rules.{first_decided, stalled_decided, unseen_decided, waiting_decided, asked_decided, dead_decided}
use Rattle.decision_order.specs.Rules.{marked_decided, unmet_decided, next_decided}

module _ {P A : Type 0} (find : Query P → Option (Option A)) (all : Query P → Option (List A)) (w : Waiting P) where
  -- the trees of an action were found by the searches for it, and there are some; an offer is pending where there is a deadlock
  abbrev pub IsFound : Next P A → Type 0
  IsFound (takes p a) = find (meeting p) ≡ Some (Some a)
  IsFound (goes_on those) = (those ≡ [] → ⊥) × (all unseen ≡ Some those)
  IsFound deadlocks = w.pending ≡ [] → ⊥
  IsFound _ = Unit {0}

  abbrev IfFound : Option (Next P A) → Type 0
  IfFound None = Unit {0}
  IfFound (Some entry) = IsFound entry

  in_turn : (query : P → Query P) (entry : P → A → Next P A) → ((p : P) (a : A) → find (query p) ≡ Some (Some a) → IsFound (entry p a)) →
      (ps : List P) (rest : Option (Next P A)) → IfFound rest → IfFound (first_decided find all w query entry ps rest)
  in_turn query entry h [] rest r = r
  in_turn query entry h (p ∷ ps) rest r = by_found (find (query p)) refl (in_turn query entry h ps rest r)
    where
      by_found : (o : Option (Option A)) → find (query p) ≡ o → IfFound (first_decided find all w query entry ps rest) →
          IfFound (where_known o (λ z. if_there z (λ a. Some (entry p a)) (first_decided find all w query entry ps rest)))
      by_found None e k = tt
      by_found (Some None) e k = k
      by_found (Some (Some a)) e k = h p a e

  stalled : (ps : List P) → IfFound (Some (if_some ps (λ z. stalls) nothing))
  stalled [] = tt
  stalled (p ∷ ps) = tt

  dead : (ps : List P) → w.pending ≡ ps → IfFound (Some (if_some ps (λ z. deadlocks) nothing))
  dead [] e = tt
  dead (p ∷ ps) e = λ f. let no : ⊥ = cc in no

  unseens : (those : List A) → all unseen ≡ Some those → IfFound (unseen_decided find all w those)
  unseens [] e = in_turn beyond_or_unseen is_beyond (λ p a h. tt) w.by_client (stalled_decided find all w) (stalled w.pending)
  unseens (a ∷ those) e = (λ f. let no : ⊥ = cc in no, e)

  waits : IfFound (waiting_decided find all w)
  waits = by_wait w.all_wait
    where
      by_all : (o : Option (List A)) → all unseen ≡ o → IfFound (where_known o (unseen_decided find all w))
      by_all None e = tt
      by_all (Some those) e = unseens those e

      by_wait : (b : Bool) → IfFound (when b (where_known (all unseen) (unseen_decided find all w)) (Some nothing))
      by_wait true = by_all (all unseen) refl
      by_wait false = tt

  asks : (ps : List P) → IfFound (asked_decided find all w ps)
  asks [] = waits
  asks (p ∷ ps) = by_found (find (beyond p))
    where
      by_found : (o : Option (Option A)) → IfFound (where_known o (λ r. Some (if_there r (is_beyond p) (is_not_now p))))
      by_found None = tt
      by_found (Some None) = tt
      by_found (Some (Some a)) = tt

  searched : (o : Option (Option A)) (x y : Option (Next P A)) → IfFound x → IfFound y → IfFound (where_known o (λ r. if_there r (λ a. x) y))
  searched None x y h k = tt
  searched (Some None) x y h k = k
  searched (Some (Some a)) x y h k = h

  marked : IfFound (marked_decided find all w)
  marked =
      searched (find any_beyond) (asked_decided find all w w.asks) (dead_decided find all w) (asks w.asks) (dead w.pending refl)

  unmet : IfFound (unmet_decided find all w)
  unmet = searched (find any) (asked_decided find all w w.asks) (marked_decided find all w) (asks w.asks) marked

  pub decided_is_found : (entry : Next P A) → next_decided find all w ≡ Some entry → IsFound entry
  decided_is_found entry e =
      subst IfFound e (in_turn meeting takes (λ p a h. h) w.pending (unmet_decided find all w) unmet)
