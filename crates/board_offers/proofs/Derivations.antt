-- Of each client at most one offer is pending, whatever happens.
use Rattle.std.proofs.Common.{◌≡◌, ◌∙◌, sym, ap, subst, List, [], ◌∷◌, ◌++◌, Contains, Bool, Some, None}
use Rattle.std.proofs.Common.{if◌then◌else◌}
use Rattle.std.specs.List.{filter}
use Rattle.std.proofs.lemmas.List.Elements.{Contains-push_cases}
use Rattle.spec_core.specs.Code.{Program}
use Rattle.spec_core.proofs.Members.{contains_first, contains_later, contains_none}
use Rattle.rule_model.specs.Events.{Event, pended, acted, replied, stalled, left}
use Rattle.rule_model.specs.Legal.{IsPossible}
use Rattle.rule_model.specs.States.{PendingOffer, State}
use Rattle.log_states.proofs.Tests.{by_cases, on_either}
use Rattle.board_offers.specs.Laws.{PendingClientsDiffer}
use Rattle.board_offers.specs.Waiting.{AreOfDifferentClients}
use Rattle.board_offers.proofs.Members.{in_filtered}

-- one more offer, of another client
behind_differ : (ps : List PendingOffer) (p : PendingOffer) → AreOfDifferentClients ps →
    ((q : PendingOffer) → Contains ps q → q.client ≡ p.client → ⊥) → AreOfDifferentClients (ps ++ p ∷ [])
behind_differ [] p d h = (λ q k e. contains_none q k, tt)
behind_differ (q ∷ qs) p d h = (
  λ x k e. on_either (Contains-push_cases qs p x k) (λ m. d.0 x m e) (λ f. h q (contains_first q qs) (sym (ap (λ z. z.client) f ∙ e))),
  behind_differ qs p d.1 (λ x k. h x (contains_later q x qs k)),
)

-- some of the offers
filtered_differ : (test : PendingOffer → Bool) (ps : List PendingOffer) → AreOfDifferentClients ps → AreOfDifferentClients (filter test ps)
filtered_differ test [] d = tt
filtered_differ test (p ∷ ps) d = by_cases (test p)
    (λ e. subst AreOfDifferentClients (sym (ap (λ b. if b then p ∷ filter test ps else filter test ps) e))
    (λ q k. d.0 q (in_filtered test ps q k), filtered_differ test ps d.1))
    (λ e. subst AreOfDifferentClients (sym (ap (λ b. if b then p ∷ filter test ps else filter test ps) e)) (filtered_differ test ps d.1))

module _ (program : Program) where
  after_entry : (s : State) (event : Event) (t : State) → IsPossible program s event t → AreOfDifferentClients s.pending →
      AreOfDifferentClients t.pending
  after_entry s (pended client number offer ask) t h d =
      subst (λ z. AreOfDifferentClients z.pending) (sym h.4)
      (behind_differ s.pending (record { client = client; number = number; offer = offer; ask = ask }) d h.1)
  after_entry s (acted action tree None) t (rest, derives, agreed, e) d = subst (λ z. AreOfDifferentClients z.pending) (sym e) d
  after_entry s (acted action tree (Some name)) t (rest, derives, agreed, e) d =
      subst (λ z. AreOfDifferentClients z.pending) (sym e) (filtered_differ _ s.pending d)
  after_entry s (replied client number answer) t h d =
      subst (λ z. AreOfDifferentClients z.pending) (sym h.2) (filtered_differ _ s.pending d)
  after_entry s (stalled names) t h d = subst (λ z. AreOfDifferentClients z.pending) (sym h.2) tt
  after_entry s (left client) t h d = subst (λ z. AreOfDifferentClients z.pending) (sym h.2) d

pub pending_clients_differ : PendingClientsDiffer
pending_clients_differ program [] s t e d = subst (λ z. AreOfDifferentClients z.pending) (sym e) d
pending_clients_differ program (event ∷ log) s t (next, p, h) d =
    pending_clients_differ program log next t h (after_entry program s event next p d)
