-- What the board does, as the value behind the lock sees it.
use Rattle.std.proofs.Common.{ℕ, ◌≤◌, ◌≡◌, ◌∙◌, refl, sym, ap, subst, List, [], ◌∷◌, ◌++◌, length, map}
use Rattle.std.proofs.Common.{Bool, false}
use Rattle.std.specs.Prelude.{Contains}
use Rattle.spec_core.specs.Code.{program_of}
use Rattle.rule_model.specs.declared.log.Entry.{Entry}
use Rattle.rule_model.specs.declared.offer.Offer.{Offer}
use Rattle.rule_model.specs.Code.{IsStart}
use Rattle.rule_model.specs.Events.{event_of, left, pended}
use Rattle.rule_model.specs.States.{after_leave, after_offer, start_state}
use Rattle.log_states.specs.Clients.{numbers_from}
use Rattle.log_states.specs.Possible.{MayLeave, MayOffer}
use Rattle.board_core.specs.Views.{BoardView, program, events, state, SameSetting}
use Rattle.session_laws.specs.Logs.{IsDrivenLog}
use Rattle.board_work.specs.Driven.{StaysDriven}
use Rattle.board_work.specs.Going.{GoesOn}
use Rattle.board_work.proofs.Driving as driving
use Rattle.session_board.specs.declared.spot.Spot.{Spot}
use Rattle.session_board.specs.Answers.{IsSpot}
use Rattle.session_board.specs.Lines.{AllHaveLeft, lines_of}
use Rattle.session_board.specs.Shared.{SharedView, HasDrivenLog, IsSound, lines}
use Rattle.session_board.proofs.Leaving.{none_open_all_left, some_open_not_all_left}
use Rattle.session_board.proofs.Lists.{events_of_lines}

-- driven logs

pub driven_on : (old new : BoardView) → SameSetting old new → StaysDriven old new → HasDrivenLog old → HasDrivenLog new
driven_on old new setting stays h = record {
  behaviour = h.behaviour;
  start = subst (λ c. IsStart (program_of c) h.behaviour) (sym setting.0.0) h.start;
  driven =
      subst
      (λ n. IsDrivenLog (program new) new.settings (start_state h.behaviour (numbers_from 1 n)) new.stop (events new) (state new))
      (sym setting.0.1) (stays (start_state h.behaviour (numbers_from 1 old.session.clients)) h.driven);
}

pub goes_on_driven : (old new : BoardView) → GoesOn old new → HasDrivenLog old → HasDrivenLog new
goes_on_driven old new h = driven_on old new h.setting h.driven

-- where it isn't noted that nothing is to be done, nothing has to be so
pub unnoted : (v : BoardView) → HasDrivenLog v → IsSound v false
unnoted v driven = record { driven = driven; idle = λ e. let never : ⊥ = cc in absurd never }

-- an offer, and a client that leaves

pub offer_driven : (old new : BoardView) (client number : ℕ) (offer : Offer) (ask : Bool) → SameSetting old new → new.stop ≡ old.stop →
    MayOffer (length (program old).gates) (state old) client number offer →
    events new ≡ events old ++ pended client number offer ask ∷ [] → state new ≡ after_offer (state old) client number offer ask →
    HasDrivenLog old → HasDrivenLog new
offer_driven old new client number offer ask setting stop may log after =
    driven_on old new setting
    (driving.client_acts old new setting (pended client number offer ask) log (may.is_open, may.idle, may.next, may.gate, after) tt stop)

pub leave_driven : (old new : BoardView) (client : ℕ) → SameSetting old new → new.stop ≡ old.stop → MayLeave (state old) client →
    events new ≡ events old ++ left client ∷ [] → state new ≡ after_leave (state old) client → HasDrivenLog old → HasDrivenLog new
leave_driven old new client setting stop may log after =
    driven_on old new setting (driving.client_acts old new setting (left client) log (may.is_open, may.idle, after) tt stop)

-- lines

pub running_list : (v : SharedView) → v.halted ≡ false → lines v ≡ lines_of v.board.session.entries false
running_list v running = ap (lines_of v.board.session.entries) running

none_of : (xs : List Entry) → map event_of xs ≡ [] → xs ≡ []
none_of [] e = refl
none_of (x ∷ xs) e = let never : ⊥ = cc in absurd never

pub no_lines : (v : SharedView) → v.halted ≡ false → events v.board ≡ [] → lines v ≡ []
no_lines v running none = running_list v running ∙ ap (λ xs. lines_of xs false) (none_of v.board.session.entries none)

pub spot_running : (v : SharedView) (spot : Spot) → v.halted ≡ false → IsSpot (lines v) spot → IsSpot (lines_of v.board.session.entries false) spot
spot_running v spot running is = subst (λ l. IsSpot l spot) (running_list v running) is

-- who has left, by the lines

pub all_have_left : (v : SharedView) → HasDrivenLog v.board → (state v.board).open_clients ≡ [] → AllHaveLeft v.board.session.clients (lines v)
all_have_left v driven none =
    subst (λ log. (k : ℕ) → 1 ≤ k → k ≤ v.board.session.clients → Contains log (left k)) (sym (events_of_lines v.board.session.entries v.halted))
    (none_open_all_left (program v.board) v.board.settings v.board.session.clients v.board.stop (events v.board) (state v.board) driven none)

pub not_all_have_left : (v : SharedView) → HasDrivenLog v.board → ((state v.board).open_clients ≡ [] → ⊥) →
    AllHaveLeft v.board.session.clients (lines v) → ⊥
not_all_have_left v driven some all =
    some_open_not_all_left (program v.board) v.board.settings v.board.session.clients v.board.stop (events v.board) (state v.board) driven some
    (subst (λ log. (k : ℕ) → 1 ≤ k → k ≤ v.board.session.clients → Contains log (left k)) (events_of_lines v.board.session.entries v.halted) all)
