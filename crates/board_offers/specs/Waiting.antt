-- The pending offers of a session, as its rules ask for them. (This profile.)
use Rattle.std.specs.Prelude.{ℕ, ◌≡◌, List, [], ◌∷◌, Contains, Bool, true, nat_lt, not, ◌&&◌, if◌then◌else◌, filter}
use Rattle.decision_trees.specs.Rules.{Waiting}
use Rattle.log_states.specs.Pending.{is_idle_among}
use Rattle.rule_model.specs.States.{PendingOffer, State}

-- An offer among others that ascend by client: before the first one whose client isn't less. Of one client's offers it comes first.
abbrev pub insert_by_client : PendingOffer → List PendingOffer → List PendingOffer
insert_by_client p [] = p ∷ []
insert_by_client p (q ∷ qs) = if nat_lt q.client p.client then q ∷ insert_by_client p qs else p ∷ q ∷ qs

-- the offers by ascending client, those of one client in the order in which they come
abbrev pub by_client : List PendingOffer → List PendingOffer
by_client [] = []
by_client (p ∷ ps) = insert_by_client p (by_client ps)

-- those that only ask
abbrev pub only_asks : List PendingOffer → List PendingOffer
only_asks ps = filter (λ p. p.ask) ps

-- whether each of these clients has one of the offers
abbrev pub all_have_offers : List ℕ → List PendingOffer → Bool
all_have_offers [] ps = true
all_have_offers (client ∷ clients) ps = not (is_idle_among ps client) && all_have_offers clients ps

-- The pending offers as the rules ask for them: in the order of the log, which is that in which an offer is taken; those that only ask, of
-- which the first one by client is answered; all by client; and whether each open client has one.
abbrev pub waiting_in : State → Waiting PendingOffer
waiting_in s = record {
  pending = s.pending;
  asks = only_asks (by_client s.pending);
  by_client = by_client s.pending;
  all_wait = all_have_offers s.open_clients s.pending;
}

-- no two of the offers are of one client
abbrev pub AreOfDifferentClients : List PendingOffer → Type 0
AreOfDifferentClients [] = Unit {0}
AreOfDifferentClients (p ∷ ps) = ((q : PendingOffer) → Contains ps q → q.client ≡ p.client → ⊥) × AreOfDifferentClients ps
