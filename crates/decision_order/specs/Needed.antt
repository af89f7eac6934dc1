-- What searches still ask, by the rules. (This profile.)
use Rattle.std.specs.Prelude.{List, [], ◌∷◌, ◌++◌, Bool}
use Rattle.decision_trees.specs.Rules.{Query, meeting, any, unseen, beyond, any_beyond, beyond_or_unseen, Waiting, when}

-- Given are, for each query, the questions that the search for the first candidate that holds finds, and those that the search for all that
-- hold finds; and whether some candidate is known to hold. Behind a search that isn't decided the rules go on as if no more candidates
-- held than are known to. Each is what the rule of the same name over whole lists asks.
module _ {P Q : Type 0} (missing every_missing : Query P → List Q) (is_there : Query P → Bool) (w : Waiting P) where
  -- whether for the first of these offers there is a candidate, and so on up to one for which there is one; else what comes behind asks
  abbrev pub first_needed : (P → Query P) → List P → List Q → List Q
  first_needed query [] rest = rest
  first_needed query (p ∷ ps) rest = missing (query p) ++ when (is_there (query p)) [] (first_needed query ps rest)

  -- which unseen trees act; where there is none, whether an offer is answered beyond
  abbrev pub unseen_needed : List Q
  unseen_needed = every_missing unseen ++ when (is_there unseen) [] (first_needed beyond_or_unseen w.by_client [])

  -- nothing, unless each open client waits
  abbrev pub waiting_needed : List Q
  waiting_needed = when w.all_wait unseen_needed []

  -- whether the first offer that only asks is answered beyond
  abbrev pub asked_needed : List P → List Q
  asked_needed [] = waiting_needed
  asked_needed (p ∷ ps) = missing (beyond p)

  -- no tree is windowed: whether there is one at all
  abbrev pub marked_needed : List Q
  marked_needed = missing any_beyond ++ when (is_there any_beyond) (asked_needed w.asks) []

  -- no windowed tree meets a pending offer: whether there is a windowed tree
  abbrev pub unmet_needed : List Q
  unmet_needed = missing any ++ when (is_there any) (asked_needed w.asks) marked_needed

  abbrev pub next_needed : List Q
  next_needed = first_needed meeting w.pending unmet_needed
