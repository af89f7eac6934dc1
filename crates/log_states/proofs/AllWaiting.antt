-- Whether each open client has an offer pending.
use Rattle.std.proofs.Common.{ℕ, ◌≡◌, ◌∙◌, refl, sym, subst, List, [], ◌∷◌, Contains, Bool, true, false, not, ◌&&◌, ◌||◌}
use Rattle.std.proofs.lemmas.Bool.{and_from, and_parts, or_cases, not_from_false, or_left, not-true, or_right, true≢false}
use Rattle.spec_core.proofs.Members.{contains_first, contains_later, contains_none}
use Rattle.rule_model.specs.States.{PendingOffer}
use Rattle.log_states.specs.declared.clients.Client.{Client}
use Rattle.log_states.specs.Clients.{open_among}
use Rattle.log_states.specs.Pending.{all_wait_among, is_idle_among}
use Rattle.log_states.proofs.Members.{in_cases}
use Rattle.log_states.proofs.OpenClients.{with_open, without_open}
use Rattle.log_states.proofs.Tests.{by_cases, on_either}
use Rattle.log_states.proofs.Waiting.{Any, IsAmong, idle, waits_some}

-- an open client that isn't idle
waiting : (c : Client) (ps : List PendingOffer) → c.is_open ≡ true → not c.is_open || not (is_idle_among ps c.number) ≡ true →
    is_idle_among ps c.number ≡ false
waiting c ps e h = on_either (or_cases (not c.is_open) (not (is_idle_among ps c.number)) h)
    (λ k. absurd (true≢false (sym e ∙ not-true c.is_open k)))
    (λ k. not-true (is_idle_among ps c.number) k)

pub all_wait : (cs : List Client) (ps : List PendingOffer) → all_wait_among cs ps ≡ true → (client : ℕ) → Contains (open_among cs) client →
    (number : ℕ) × IsAmong Any ps client number
all_wait [] ps h client k = absurd (contains_none client k)
all_wait (c ∷ cs) ps h client k =
    let m = and_parts (not c.is_open || not (is_idle_among ps c.number)) (all_wait_among cs ps) h in
    by_cases c.is_open
    (λ e. on_either (in_cases c.number client (open_among cs) (subst (λ z. Contains z client) (with_open c cs e) k))
    (λ f. subst (λ z. (number : ℕ) × IsAmong Any ps z number) f (waits_some ps c.number (waiting c ps e m.0)))
    (λ f. all_wait cs ps m.1 client f))
    (λ e. all_wait cs ps m.1 client (subst (λ z. Contains z client) (without_open c cs e) k))

-- a client with an offer isn't idle
busy : (ps : List PendingOffer) (client number : ℕ) → IsAmong Any ps client number → is_idle_among ps client ≡ false
busy ps client number w = by_cases (is_idle_among ps client) (λ e. absurd (idle ps client e w.waits w.among w.client_is)) (λ e. e)

pub wait_all : (cs : List Client) (ps : List PendingOffer) →
    ((client : ℕ) → Contains (open_among cs) client → (number : ℕ) × IsAmong Any ps client number) → all_wait_among cs ps ≡ true
wait_all [] ps h = refl
wait_all (c ∷ cs) ps h = by_cases c.is_open
    (λ e.
    let w = h c.number (subst (λ z. Contains z c.number) (sym (with_open c cs e)) (contains_first c.number (open_among cs))) in
    and_from (not c.is_open || not (is_idle_among ps c.number)) (all_wait_among cs ps)
    (or_right (not c.is_open) (not (is_idle_among ps c.number)) (not_from_false (is_idle_among ps c.number) (busy ps c.number w.0 w.1)))
    (wait_all cs ps
    (λ client k. h client (subst (λ z. Contains z client) (sym (with_open c cs e)) (contains_later c.number client (open_among cs) k)))))
    (λ e.
    and_from (not c.is_open || not (is_idle_among ps c.number)) (all_wait_among cs ps)
    (or_left (not c.is_open) (not (is_idle_among ps c.number)) (not_from_false c.is_open e))
    (wait_all cs ps (λ client k. h client (subst (λ z. Contains z client) (sym (without_open c cs e)) k))))
