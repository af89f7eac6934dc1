-- What the rules decide of candidates is decided of their trees.
use Rattle.std.proofs.Common.{◌≡◌, ◌∙◌, List, [], ◌∷◌, map, refl, ap, Option, Some, None, option_map, Bool, true, false}
use Rattle.rule_model.specs.Derivations.{Derivation}
use Rattle.decision_trees.specs.Known.{where_known}
use Rattle.decision_trees.specs.Rules.{Query, meeting, any, unseen, beyond, any_beyond, beyond_or_unseen, Waiting, Next, takes, deadlocks, is_beyond}
use Rattle.decision_trees.specs.Rules.{is_not_now, stalls, nothing, if_there, if_some, when}
use Rattle.decision_order.specs.Rules.{first_decided, stalled_decided, unseen_decided, waiting_decided, asked_decided, dead_decided}
use Rattle.decision_order.specs.Rules.{marked_decided, unmet_decided, next_decided}
use Rattle.candidate_laws.specs.Waiting.{Candidate, with_trees}
use Rattle.candidates.proofs.Trees.{tree_of}

-- the entry with its trees, if it is decided
abbrev pub entry_trees : {P : Type 0} → Option (Next P Candidate) → Option (Next P Derivation)
entry_trees o = option_map with_trees o

by_found : {P : Type 0} (o : Option (Option Candidate)) (f : Candidate → Option (Next P Candidate)) (g : Derivation → Option (Next P Derivation))
    (x : Option (Next P Candidate)) (y : Option (Next P Derivation)) →
    ((a : Candidate) → entry_trees (f a) ≡ g a.tree) → entry_trees x ≡ y →
    entry_trees (where_known o (λ r. if_there r f x)) ≡ where_known (option_map (option_map tree_of) o) (λ r. if_there r g y)
by_found None f g x y h e = refl
by_found (Some None) f g x y h e = e
by_found (Some (Some a)) f g x y h e = h a

module _ {P : Type 0} (find : Query P → Option (Option Candidate)) (every : Query P → Option (List Candidate))
    (find_tree : Query P → Option (Option Derivation)) (every_tree : Query P → Option (List Derivation)) (w : Waiting P)
    (firsts : (q : Query P) → option_map (option_map tree_of) (find q) ≡ find_tree q)
    (alls : (q : Query P) → option_map (map tree_of) (every q) ≡ every_tree q) where
  searched : (q : Query P) (f : Candidate → Option (Next P Candidate)) (g : Derivation → Option (Next P Derivation))
      (x : Option (Next P Candidate)) (y : Option (Next P Derivation)) →
      ((a : Candidate) → entry_trees (f a) ≡ g a.tree) → entry_trees x ≡ y →
      entry_trees (where_known (find q) (λ r. if_there r f x)) ≡ where_known (find_tree q) (λ r. if_there r g y)
  searched q f g x y h e = by_found (find q) f g x y h e ∙ ap (λ o. where_known o (λ r. if_there r g y)) (firsts q)

  in_turn : (query : P → Query P) (entry : P → Candidate → Next P Candidate) (tree_entry : P → Derivation → Next P Derivation) →
      ((p : P) (a : Candidate) → with_trees (entry p a) ≡ tree_entry p a.tree) →
      (ps : List P) (x : Option (Next P Candidate)) (y : Option (Next P Derivation)) → entry_trees x ≡ y →
      entry_trees (first_decided find every w query entry ps x) ≡ first_decided find_tree every_tree w query tree_entry ps y
  in_turn query entry tree_entry h [] x y e = e
  in_turn query entry tree_entry h (p ∷ ps) x y e =
      searched (query p) (λ a. Some (entry p a)) (λ d. Some (tree_entry p d)) (first_decided find every w query entry ps x)
      (first_decided find_tree every_tree w query tree_entry ps y) (λ a. ap Some (h p a)) (in_turn query entry tree_entry h ps x y e)

  pending_or : (ps : List P) (x : Next P Candidate) (y : Next P Derivation) → with_trees x ≡ y →
      entry_trees (Some (if_some ps (λ z. x) nothing)) ≡ Some (if_some ps (λ z. y) nothing)
  pending_or [] x y e = refl
  pending_or (p ∷ ps) x y e = ap Some e

  stalled : entry_trees (stalled_decided find every w) ≡ stalled_decided find_tree every_tree w
  stalled = pending_or w.pending stalls stalls refl

  dead : entry_trees (dead_decided find every w) ≡ dead_decided find_tree every_tree w
  dead = pending_or w.pending deadlocks deadlocks refl

  unseens : (those : List Candidate) →
      entry_trees (unseen_decided find every w those) ≡ unseen_decided find_tree every_tree w (map tree_of those)
  unseens [] =
      in_turn beyond_or_unseen is_beyond is_beyond (λ p a. refl) w.by_client (stalled_decided find every w)
      (stalled_decided find_tree every_tree w) stalled
  unseens (a ∷ those) = refl

  all_waits : entry_trees (waiting_decided find every w) ≡ waiting_decided find_tree every_tree w
  all_waits = by_wait w.all_wait
    where
      by_all : (o : Option (List Candidate)) →
          entry_trees (where_known o (unseen_decided find every w)) ≡
          where_known (option_map (map tree_of) o) (unseen_decided find_tree every_tree w)
      by_all None = refl
      by_all (Some those) = unseens those

      by_wait : (b : Bool) → entry_trees (when b (where_known (every unseen) (unseen_decided find every w)) (Some nothing)) ≡
          when b (where_known (every_tree unseen) (unseen_decided find_tree every_tree w)) (Some nothing)
      by_wait true = by_all (every unseen) ∙ ap (λ o. where_known o (unseen_decided find_tree every_tree w)) (alls unseen)
      by_wait false = refl

  by_beyond : (p : P) (o : Option (Option Candidate)) →
      entry_trees (where_known o (λ r. Some (if_there r (is_beyond p) (is_not_now p)))) ≡
      where_known (option_map (option_map tree_of) o) (λ r. Some (if_there r (is_beyond p) (is_not_now p)))
  by_beyond p None = refl
  by_beyond p (Some None) = refl
  by_beyond p (Some (Some a)) = refl

  asks : (ps : List P) → entry_trees (asked_decided find every w ps) ≡ asked_decided find_tree every_tree w ps
  asks [] = all_waits
  asks (p ∷ ps) =
      by_beyond p (find (beyond p)) ∙ ap (λ o. where_known o (λ r. Some (if_there r (is_beyond p) (is_not_now p)))) (firsts (beyond p))

  marked : entry_trees (marked_decided find every w) ≡ marked_decided find_tree every_tree w
  marked =
      searched any_beyond (λ a. asked_decided find every w w.asks) (λ d. asked_decided find_tree every_tree w w.asks) (dead_decided find every w)
      (dead_decided find_tree every_tree w) (λ a. asks w.asks) dead

  unmet : entry_trees (unmet_decided find every w) ≡ unmet_decided find_tree every_tree w
  unmet =
      searched any (λ a. asked_decided find every w w.asks) (λ d. asked_decided find_tree every_tree w w.asks) (marked_decided find every w)
      (marked_decided find_tree every_tree w) (λ a. asks w.asks) marked

  pub next_is : entry_trees (next_decided find every w) ≡ next_decided find_tree every_tree w
  next_is =
      in_turn meeting takes takes (λ p a. refl) w.pending (unmet_decided find every w) (unmet_decided find_tree every_tree w) unmet
