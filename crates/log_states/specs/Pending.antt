-- Pending offers, and lists of their names.
use Rattle.std.specs.Prelude.{ℕ, ◌≡◌, List, [], ◌∷◌, Bool, true, false, nat_eq, nat_lt, not, ◌&&◌, ◌||◌, ◌⊎◌}
use Rattle.rule_model.specs.declared.offer.Offer.{Offer}
use Rattle.rule_model.specs.Events.{OfferName}
use Rattle.rule_model.specs.States.{PendingOffer}
use Rattle.log_states.specs.declared.clients.Client.{Client}

-- whether the offer of this client and number is pending
abbrev pub waits_among : List PendingOffer → ℕ → ℕ → Bool
waits_among [] client number = false
waits_among (p ∷ ps) client number = (nat_eq p.client client && nat_eq p.number number) || waits_among ps client number

-- whether the client has no offer pending
abbrev pub is_idle_among : List PendingOffer → ℕ → Bool
is_idle_among [] client = true
is_idle_among (p ∷ ps) client = not (nat_eq p.client client) && is_idle_among ps client

-- whether each open one of these clients has an offer pending
abbrev pub all_wait_among : List Client → List PendingOffer → Bool
all_wait_among [] ps = true
all_wait_among (c ∷ cs) ps = (not c.is_open || not (is_idle_among ps c.number)) && all_wait_among cs ps

-- the offer of this client and number is pending, and the fact holds of what it offers
abbrev pub WaitsAnd : (Offer → Type 0) → List PendingOffer → ℕ → ℕ → Type 0
WaitsAnd P [] client number = ⊥
WaitsAnd P (p ∷ ps) client number = ((p.client ≡ client) × (p.number ≡ number) × P p.offer) ⊎ WaitsAnd P ps client number

-- whether the list names the offer of this client and number
abbrev pub is_named : List OfferName → ℕ → ℕ → Bool
is_named [] client number = false
is_named (name ∷ names) client number = (nat_eq name.0 client && nat_eq name.1 number) || is_named names client number

-- whether it names all of these
abbrev pub names_all : List OfferName → List PendingOffer → Bool
names_all names [] = true
names_all names (p ∷ ps) = is_named names p.client p.number && names_all names ps

-- whether it names none but these
abbrev pub names_only : List OfferName → List PendingOffer → Bool
names_only [] pending = true
names_only (name ∷ names) pending = waits_among pending name.0 name.1 && names_only names pending

-- whether the client is below the first one in it
abbrev pub comes_before : ℕ → List OfferName → Bool
comes_before client [] = true
comes_before client (name ∷ names) = nat_lt client name.0

-- whether each client in it is below the next one
abbrev pub is_ascending : List OfferName → Bool
is_ascending [] = true
is_ascending (name ∷ names) = comes_before name.0 names && is_ascending names
