-- Whoever makes an offer is one of the session's clients.
use Rattle.std.proofs.Common.{ℕ, ◌≡◌, ◌∙◌, refl, sym, ap, subst, List, [], ◌∷◌, Contains, Some, None, nat_eq, false, cond, eqb-true}
use Rattle.spec_core.specs.Code.{Program}
use Rattle.rule_model.specs.Events.{Event, pended, acted, replied, stalled, left}
use Rattle.rule_model.specs.Legal.{IsPossible, IsDerivation}
use Rattle.rule_model.specs.States.{State, start_state}
use Rattle.log_states.specs.Clients.{numbers_from}
use Rattle.log_states.proofs.Tests.{by_cases}
use Rattle.board_offers.proofs.Members.{in_filtered}
use Rattle.session_laws.specs.Answers.{offers_by}
use Rattle.session_laws.proofs.Legal.{driven_logs_are_derivations}
use Rattle.session_laws.specs.AnswerLaws.{ClientsAloneOffer}

module _ (program : Program) (clients : List ℕ) where
  -- each open client is one of these
  abbrev AreAmong : State → Type 0
  AreAmong s = (client : ℕ) → Contains s.open_clients client → Contains clients client

  after_entry : (s : State) (event : Event) (t : State) → IsPossible program s event t → AreAmong s → AreAmong t
  after_entry s (pended client number offer ask) t (is_open, idle, next, gate, e) h = subst AreAmong (sym e) h
  after_entry s (acted action tree None) t (rest, derives, agreed, e) h = subst AreAmong (sym e) h
  after_entry s (acted action tree (Some name)) t (rest, derives, agreed, e) h = subst AreAmong (sym e) h
  after_entry s (replied client number answer) t (pending, at, e) h = subst AreAmong (sym e) h
  after_entry s (stalled names) t (some, all, e) h = subst AreAmong (sym e) h
  after_entry s (left client) t (is_open, idle, e) h = subst AreAmong (sym e) (λ c m. h c (in_filtered _ s.open_clients c m))

  -- another makes none
  others : (log : List Event) (s t : State) → IsDerivation program log s t → AreAmong s → (client : ℕ) → (Contains clients client → ⊥) →
      offers_by client log ≡ []
  others [] s t d h client other = refl
  others (pended c number offer ask ∷ log) s t (next, possible, d) h client other =
      ap (λ b. cond b (record { client = c; number = number; offer = offer; ask = ask } ∷ offers_by client log) (offers_by client log)) differ
      ∙ others log next t d (after_entry s (pended c number offer ask) next possible h) client other
    where
      differ : nat_eq c client ≡ false
      differ =
          by_cases (nat_eq c client) (λ same. absurd (other (subst (λ k. Contains clients k) (eqb-true c client same) (h c possible.0))))
          (λ e. e)
  others (acted action tree by ∷ log) s t (next, possible, d) h client other =
      others log next t d (after_entry s (acted action tree by) next possible h) client other
  others (replied c number answer ∷ log) s t (next, possible, d) h client other =
      others log next t d (after_entry s (replied c number answer) next possible h) client other
  others (stalled names ∷ log) s t (next, possible, d) h client other =
      others log next t d (after_entry s (stalled names) next possible h) client other
  others (left c ∷ log) s t (next, possible, d) h client other =
      others log next t d (after_entry s (left c) next possible h) client other

pub clients_alone_offer : ClientsAloneOffer
clients_alone_offer program settings clients log ending whole client other =
    let d = driven_logs_are_derivations program settings clients whole.stop log whole.last whole.driven in
    others program (numbers_from 1 clients) log (start_state d.0 (numbers_from 1 clients)) whole.last d.2 (λ c m. m) client other
