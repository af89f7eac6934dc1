-- Whether each open client has an offer pending.
use Rattle.std.proofs.Common.{ℕ, ◌≡◌, refl, sym, subst, List, [], ◌∷◌, Contains, Bool, true, false, not}
use Rattle.std.proofs.lemmas.Bool.{and_from, and_parts, not_from_false, not-true}
use Rattle.spec_core.proofs.Members.{contains_first, contains_later, contains_none}
use Rattle.rule_model.specs.States.{PendingOffer}
use Rattle.log_states.specs.Pending.{is_idle_among}
use Rattle.log_states.proofs.Members.{in_cases}
use Rattle.log_states.proofs.Tests.{by_cases, on_either}
use Rattle.log_states.proofs.Waiting.{Any, IsAmong, idle, waits_some, pending_and, and_pending}
use Rattle.board_offers.specs.Laws.{AllWaitIsDecided}
use Rattle.board_offers.specs.Waiting.{all_have_offers}

pub all_have : (clients : List ℕ) (ps : List PendingOffer) → all_have_offers clients ps ≡ true → (client : ℕ) → Contains clients client →
    (number : ℕ) × IsAmong Any ps client number
all_have [] ps h client k = absurd (contains_none client k)
all_have (c ∷ cs) ps h client k =
    let m = and_parts (not (is_idle_among ps c)) (all_have_offers cs ps) h in
    on_either (in_cases c client cs k)
    (λ e. subst (λ z. (number : ℕ) × IsAmong Any ps z number) e (waits_some ps c (not-true (is_idle_among ps c) m.0)))
    (λ f. all_have cs ps m.1 client f)

-- a client with an offer isn't idle
busy : (ps : List PendingOffer) (client number : ℕ) → IsAmong Any ps client number → is_idle_among ps client ≡ false
busy ps client number w = by_cases (is_idle_among ps client) (λ e. absurd (idle ps client e w.waits w.among w.client_is)) (λ e. e)

pub have_all : (clients : List ℕ) (ps : List PendingOffer) →
    ((client : ℕ) → Contains clients client → (number : ℕ) × IsAmong Any ps client number) → all_have_offers clients ps ≡ true
have_all [] ps h = refl
have_all (c ∷ cs) ps h =
    let w = h c (contains_first c cs) in
    and_from (not (is_idle_among ps c)) (all_have_offers cs ps) (not_from_false (is_idle_among ps c) (busy ps c w.0 w.1))
    (have_all cs ps (λ client k. h client (contains_later c client cs k)))

pub all_wait_is_decided : AllWaitIsDecided
all_wait_is_decided s = (
  λ h client k.
      let w = all_have s.open_clients s.pending h client k in
      (w.0, pending_and Any s (client, w.0) w.1),
  λ h. have_all s.open_clients s.pending (λ client k. let w = h client k in (w.0, and_pending Any s (client, w.0) w.1)),
)

-- two truth values, of which each holds where the other does
pub same_truth : (a b : Bool) → (a ≡ true → b ≡ true) → (b ≡ true → a ≡ true) → a ≡ b
same_truth true b f g = sym (f refl)
same_truth false true f g = g refl
same_truth false false f g = refl
