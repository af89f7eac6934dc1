-- What the rules decide from what searches find, as far as that is known. (This profile.)
use Rattle.std.specs.Prelude.{List, [], ◌∷◌, Option, Some}
use Rattle.decision_trees.specs.Known.{where_known}
use Rattle.decision_trees.specs.Rules.{Query, meeting, any, unseen, beyond, any_beyond, beyond_or_unseen, Next, takes, deadlocks, is_beyond}
use Rattle.decision_trees.specs.Rules.{is_not_now, goes_on, stalls, nothing, Waiting, if_there, if_some, when}

-- Given are the first candidate that holds, and all that hold, for each query; none where that isn't known. Each is the rule of the same
-- name over whole lists.
module _ {P A : Type 0} (find : Query P → Option (Option A)) (all : Query P → Option (List A)) (w : Waiting P) where
  -- the first of these offers for which there is a candidate, with the first one; else what comes behind
  abbrev pub first_decided : (P → Query P) → (P → A → Next P A) → List P → Option (Next P A) → Option (Next P A)
  first_decided query entry [] rest = rest
  first_decided query entry (p ∷ ps) rest =
      where_known (find (query p)) (λ r. if_there r (λ a. Some (entry p a)) (first_decided query entry ps rest))

  -- all that is pending is stalled
  abbrev pub stalled_decided : Option (Next P A)
  stalled_decided = Some (if_some w.pending (λ ps. stalls) nothing)

  -- an unseen tree acts; else an offer is answered beyond; else there is a stall
  abbrev pub unseen_decided : List A → Option (Next P A)
  unseen_decided those = if_some those (λ them. Some (goes_on them)) (first_decided beyond_or_unseen is_beyond w.by_client stalled_decided)

  -- each open client waits
  abbrev pub waiting_decided : Option (Next P A)
  waiting_decided = when w.all_wait (where_known (all unseen) unseen_decided) (Some nothing)

  -- the first offer that only asks is answered
  abbrev pub asked_decided : List P → Option (Next P A)
  asked_decided [] = waiting_decided
  asked_decided (p ∷ ps) = where_known (find (beyond p)) (λ r. Some (if_there r (is_beyond p) (is_not_now p)))

  -- there is no tree at all
  abbrev pub dead_decided : Option (Next P A)
  dead_decided = Some (if_some w.pending (λ ps. deadlocks) nothing)

  -- there is no windowed tree
  abbrev pub marked_decided : Option (Next P A)
  marked_decided = where_known (find any_beyond) (λ r. if_there r (λ a. asked_decided w.asks) dead_decided)

  -- no windowed tree meets a pending offer
  abbrev pub unmet_decided : Option (Next P A)
  unmet_decided = where_known (find any) (λ r. if_there r (λ a. asked_decided w.asks) marked_decided)

  abbrev pub next_decided : Option (Next P A)
  next_decided = first_decided meeting takes w.pending unmet_decided
