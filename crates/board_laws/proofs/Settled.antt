-- Where searches ask nothing, the rules decide.
use Rattle.std.proofs.Common.{◌≡◌, ◌++◌, List, [], ◌∷◌, sym, subst, Option, Some, None, Bool, true, false}
use Rattle.std.specs.Prelude.{is_some}
use Rattle.spec_core.proofs.Lists.{left_empty, right_empty}
use Rattle.decision_trees.specs.Known.{where_known}
use Rattle.decision_trees.specs.Lazy.{first}
use Rattle.decision_trees.specs.Rules.{Query, meeting, any, unseen, beyond, any_beyond, beyond_or_unseen, Waiting, Next, takes, is_beyond}
use Rattle.decision_trees.specs.Rules.{is_not_now, nothing, if_there, when}
use Rattle.decision_order.specs.Rules.{first_decided, stalled_decided, unseen_decided, asked_decided, dead_decided}
use Rattle.decision_order.specs.Rules.{marked_decided, unmet_decided, next_decided}
use Rattle.decision_order.specs.Needed.{first_needed, unseen_needed, asked_needed, marked_needed, unmet_needed, next_needed}

-- it is decided
abbrev pub IsDecided : {R : Type 0} → Option R → Type 0
IsDecided None = ⊥
IsDecided (Some r) = Unit {0}

-- A search for the first, or for all: it is decided, and it finds one just where one is known to hold.

pub record IsFirst {A : Type 0} (o : Option (Option A)) (holds : Bool) : Type 0 where
  pub found : Option A
  pub is : o ≡ Some found
  pub same : is_some found ≡ holds

pub record AreAll {A : Type 0} (o : Option (List A)) (holds : Bool) : Type 0 where
  pub found : List A
  pub is : o ≡ Some found
  pub same : is_some (first found) ≡ holds

module _ {P A J : Type 0} (find : Query P → Option (Option A)) (all : Query P → Option (List A)) (missing every_missing : Query P → List J)
    (is_there : Query P → Bool) (w : Waiting P)
    (firsts : (q : Query P) → missing q ≡ [] → IsFirst (find q) (is_there q))
    (alls : (q : Query P) → every_missing q ≡ [] → AreAll (all q) (is_there q)) where
  abbrev Entry : Type 0
  Entry = Next P A

  by_found : (r : Option A) (holds : Bool) → is_some r ≡ holds → (f : A → Option Entry) (rest : Option Entry) (ms ns : List J) →
      (ms ≡ [] → (a : A) → IsDecided (f a)) → (ns ≡ [] → IsDecided rest) → when holds ms ns ≡ [] → IsDecided (if_there r f rest)
  by_found None true e f rest ms ns h k n = let no : ⊥ = cc in absurd no
  by_found None false e f rest ms ns h k n = k n
  by_found (Some a) true e f rest ms ns h k n = h n a
  by_found (Some a) false e f rest ms ns h k n = let no : ⊥ = cc in absurd no

  -- a search for the first, and what comes behind it
  search : (q : Query P) (f : A → Option Entry) (rest : Option Entry) (ms ns : List J) →
      (ms ≡ [] → (a : A) → IsDecided (f a)) → (ns ≡ [] → IsDecided rest) → missing q ++ when (is_there q) ms ns ≡ [] →
      IsDecided (where_known (find q) (λ r. if_there r f rest))
  search q f rest ms ns h k e =
      let s : IsFirst (find q) (is_there q) = firsts q (left_empty (missing q) (when (is_there q) ms ns) e) in
      subst (λ o. IsDecided (where_known o (λ r. if_there r f rest))) (sym s.is)
      (by_found s.found (is_there q) s.same f rest ms ns h k (right_empty (missing q) (when (is_there q) ms ns) e))

  in_turn : (query : P → Query P) (entry : P → A → Entry) (ps : List P) (rest : Option Entry) (ns : List J) → (ns ≡ [] → IsDecided rest) →
      first_needed missing every_missing is_there w query ps ns ≡ [] → IsDecided (first_decided find all w query entry ps rest)
  in_turn query entry [] rest ns h e = h e
  in_turn query entry (p ∷ ps) rest ns h e =
      search (query p) (λ a. Some (entry p a)) (first_decided find all w query entry ps rest) []
      (first_needed missing every_missing is_there w query ps ns) (λ n a. tt) (in_turn query entry ps rest ns h) e

  by_all : (those : List A) (holds : Bool) → is_some (first those) ≡ holds →
      when holds [] (first_needed missing every_missing is_there w beyond_or_unseen w.by_client []) ≡ [] →
      IsDecided (unseen_decided find all w those)
  by_all [] true e n = let no : ⊥ = cc in absurd no
  by_all [] false e n = in_turn beyond_or_unseen is_beyond w.by_client (stalled_decided find all w) [] (λ z. tt) n
  by_all (a ∷ those) holds e n = tt

  unseens : unseen_needed missing every_missing is_there w ≡ [] → IsDecided (where_known (all unseen) (unseen_decided find all w))
  unseens e =
      let ns : List J = when (is_there unseen) [] (first_needed missing every_missing is_there w beyond_or_unseen w.by_client []) in
      let s : AreAll (all unseen) (is_there unseen) = alls unseen (left_empty (every_missing unseen) ns e) in
      subst (λ o. IsDecided (where_known o (unseen_decided find all w))) (sym s.is)
      (by_all s.found (is_there unseen) s.same (right_empty (every_missing unseen) ns e))

  by_wait : (b : Bool) → when b (unseen_needed missing every_missing is_there w) [] ≡ [] →
      IsDecided (when b (where_known (all unseen) (unseen_decided find all w)) (Some nothing))
  by_wait true e = unseens e
  by_wait false e = tt

  by_beyond : (p : P) → IsFirst (find (beyond p)) (is_there (beyond p)) →
      IsDecided (where_known (find (beyond p)) (λ r. Some (if_there r (is_beyond p) (is_not_now p))))
  by_beyond p s =
      subst (λ o. IsDecided (where_known o (λ r. Some (if_there {X = Entry} r (is_beyond p) (is_not_now p))))) (sym s.is) tt

  asks : (ps : List P) → asked_needed missing every_missing is_there w ps ≡ [] → IsDecided (asked_decided find all w ps)
  asks [] e = by_wait w.all_wait e
  asks (p ∷ ps) e = by_beyond p (firsts (beyond p) e)

  marked : marked_needed missing every_missing is_there w ≡ [] → IsDecided (marked_decided find all w)
  marked e =
      search any_beyond (λ a. asked_decided find all w w.asks) (dead_decided find all w)
      (asked_needed missing every_missing is_there w w.asks) [] (λ n a. asks w.asks n) (λ n. tt) e

  unmet : unmet_needed missing every_missing is_there w ≡ [] → IsDecided (unmet_decided find all w)
  unmet e =
      search any (λ a. asked_decided find all w w.asks) (marked_decided find all w) (asked_needed missing every_missing is_there w w.asks)
      (marked_needed missing every_missing is_there w) (λ n a. asks w.asks n) marked e

  pub settled : next_needed missing every_missing is_there w ≡ [] → IsDecided (next_decided find all w)
  settled e =
      in_turn meeting takes w.pending (unmet_decided find all w) (unmet_needed missing every_missing is_there w) unmet e
