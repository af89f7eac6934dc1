-- What numbers of offers stand for.
use Rattle.std.specs.Prelude.{ℕ, map}
use Rattle.decision_trees.specs.Rules.{Query, meeting, any, unseen, beyond, any_beyond, beyond_or_unseen, Next, takes, deadlocks, is_beyond}
use Rattle.decision_trees.specs.Rules.{is_not_now, goes_on, stalls, nothing, Waiting}

module _ {P : Type 0} (offer : ℕ → P) where
  abbrev pub query_with : Query ℕ → Query P
  query_with (meeting p) = meeting (offer p)
  query_with any = any
  query_with unseen = unseen
  query_with (beyond p) = beyond (offer p)
  query_with any_beyond = any_beyond
  query_with (beyond_or_unseen p) = beyond_or_unseen (offer p)

  abbrev pub entry_with : {A : Type 0} → Next ℕ A → Next P A
  entry_with (takes p a) = takes (offer p) a
  entry_with deadlocks = deadlocks
  entry_with (is_beyond p a) = is_beyond (offer p) a
  entry_with (is_not_now p) = is_not_now (offer p)
  entry_with (goes_on those) = goes_on those
  entry_with stalls = stalls
  entry_with nothing = nothing

  abbrev pub waiting_with : Waiting ℕ → Waiting P
  waiting_with w = record {
    pending = map offer w.pending;
    asks = map offer w.asks;
    by_client = map offer w.by_client;
    all_wait = w.all_wait;
  }
