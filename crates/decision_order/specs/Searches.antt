-- What the program's searches and entries stand for. Offers are numbers here; of a candidate that was found is given what it stands for.
use Rattle.std.specs.Prelude.{ℕ, List, map, Option, Some, None}
use Rattle.decision_trees.specs.Rules.{Query, meeting, any, unseen, beyond, any_beyond, beyond_or_unseen, Next, takes, deadlocks, is_beyond}
use Rattle.decision_trees.specs.Rules.{is_not_now, goes_on, stalls, nothing, Waiting}
use Rattle.decision_order.specs.declared.listing.Search.{Search}
use Rattle.decision_order.specs.declared.listing.Search.TheVariants.{Meeting, Any, Unseen, Beyond, AnyBeyond, BeyondOrUnseen}
use Rattle.decision_order.specs.declared.listing.First.{First}
use Rattle.decision_order.specs.declared.listing.First.TheVariants.{Open, Absent, Is}
use Rattle.decision_order.specs.declared.listing.All.{All}
use Rattle.decision_order.specs.declared.listing.All.TheVariants.{Undecided, These}
use Rattle.decision_order.specs.declared.listing.OffersByNumber.{OffersByNumber}
use Rattle.decision_order.specs.declared.settle.Settled.{Settled}
use Rattle.decision_order.specs.declared.settle.Settled.TheVariants.{Unknown, Takes, Deadlocks, IsBeyond, IsNotNow, GoesOn, Stalls, Nothing}

abbrev pub query_of : Search → Query ℕ
query_of (Meeting p) = meeting p
query_of Any = any
query_of Unseen = unseen
query_of (Beyond p) = beyond p
query_of AnyBeyond = any_beyond
query_of (BeyondOrUnseen p) = beyond_or_unseen p

module _ {F A : Type 0} (candidate_of : F → A) where
  abbrev pub first_of : First F → Option (Option A)
  first_of Open = None
  first_of Absent = Some None
  first_of (Is a) = Some (Some (candidate_of a))

  abbrev pub all_of : All F → Option (List A)
  all_of Undecided = None
  all_of (These list) = Some (map candidate_of list.items)

  abbrev pub settled_of : Settled F → Option (Next ℕ A)
  settled_of Unknown = None
  settled_of (Takes p a) = Some (takes p (candidate_of a))
  settled_of Deadlocks = Some deadlocks
  settled_of (IsBeyond p a) = Some (is_beyond p (candidate_of a))
  settled_of (IsNotNow p) = Some (is_not_now p)
  settled_of (GoesOn list) = Some (goes_on (map candidate_of list.items))
  settled_of Stalls = Some stalls
  settled_of Nothing = Some nothing

abbrev pub waiting_of : OffersByNumber → Waiting ℕ
waiting_of o = record { pending = o.pending.items; asks = o.asks.items; by_client = o.by_client.items; all_wait = o.all_wait }
