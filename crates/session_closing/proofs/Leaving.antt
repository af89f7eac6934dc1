-- Clients that leave, and sessions that end.
use Rattle.std.proofs.Common.{ℕ, ◌+◌, ◌≤◌, ◌≡◌, ◌⊎◌, ◌∙◌, inl, inr, refl, sym}
use Rattle.std.proofs.Common.{ap, subst, List, [], ◌∷◌, ◌++◌, map, Contains, append_assoc, append-nil}
use Rattle.std.proofs.lemmas.List.{map-append}
use Rattle.std.specs.List.Sorted.{IsStrictlyIncreasing}
use Rattle.run_settings.specs.declared.settings.Settings.{Settings}
use Rattle.spec_core.specs.Code.{Program, program_of}
use Rattle.spec_core.specs.Lists.{Each}
use Rattle.rule_model.specs.declared.log.Entry.{Entry}
use Rattle.rule_model.specs.Events.{Ending, Event, event_of, left}
use Rattle.rule_model.specs.States.{State, after_leave, start_state}
use Rattle.board_record.specs.Records.{IsSession}
use Rattle.log_states.specs.Clients.{numbers_from}
use Rattle.log_states.specs.Possible.{MayLeave}
use Rattle.client_laws.specs.Ends.{IsEndingOf}
use Rattle.client_laws.specs.Runs.{IsSettledAt}
use Rattle.board_core.specs.Views.{BoardView, program, events, state, SameSession, SameSetting}
use Rattle.session_laws.specs.Logs.{IsDrivenLog, IsOfClient}
use Rattle.session_laws.specs.Sessions.{IsDriven, IsWholeSession}
use Rattle.board_work.specs.Driven.{StaysDriven}
use Rattle.board_work.specs.Going.{GoesOn}
use Rattle.board_work.proofs.Driving as driving
use Rattle.client_runs.specs.Runs.{IsSettledOn}
use Rattle.session_closing.specs.Closing.{AllLeave, HasLeftNow, HasNotLeft, IsClosedOff, LeavesIfOpen}
use Rattle.session_closing.proofs.Rising.{Rise, begins_later, begins_with, increases, none_rise, open_rise, others}

-- one setting after another
pub same_setting : (a b c : BoardView) → SameSetting a b → SameSetting b c → SameSetting a c
same_setting a b c x y = ((y.0.0 ∙ x.0.0, y.0.1 ∙ x.0.1), y.1 ∙ x.1, y.2 ∙ x.2)

-- a client that leaves, and one that isn't open

pub leaves : (client : ℕ) (old new : BoardView) → SameSetting old new → new.stop ≡ old.stop → MayLeave (state old) client →
    events new ≡ events old ++ left client ∷ [] → state new ≡ after_leave (state old) client → LeavesIfOpen client old new
leaves client old new setting stop may log after = record {
  setting = setting;
  driven = driving.client_acts old new setting (left client) log (may.is_open, may.idle, after) tt stop;
  pending = ap (λ (s : State). s.pending) after;
  leaves = inl (record { was_open = may.is_open; log = log; clients = ap (λ (s : State). s.open_clients) after });
}

pub stays : (client : ℕ) (v : BoardView) → (Contains (state v).open_clients client → ⊥) → LeavesIfOpen client v v
stays client v out = record {
  setting = ((refl, refl), refl, refl);
  driven = λ start h. h;
  pending = refl;
  leaves = inr (record { was_not_open = out; log = refl; clients = refl });
}

-- The clients below this one have left: those that are open rise from it on, and once they leave, all that were open have left.
pub record HaveLeftBelow (next past : ℕ) (old new : BoardView) : Type 0 where
  pub setting : SameSetting old new
  pub driven : StaysDriven old new
  pub pending : (state new).pending ≡ (state old).pending
  pub rise : Rise next past (state new).open_clients
  pub log : events new ++ map left (state new).open_clients ≡ events old ++ map left (state old).open_clients

pub none_yet : (v : BoardView) (count : ℕ) → count ≡ v.session.clients → IsSession (program v) v.session.clients (events v) (state v) →
    HaveLeftBelow 1 (count + 1) v v
none_yet v count same session = record {
  setting = ((refl, refl), refl, refl);
  driven = λ start h. h;
  pending = refl;
  rise =
      subst (λ n. Rise 1 (n + 1) (state v).open_clients) (sym same)
      (open_rise (program v) v.session.clients (events v) (start_state session.behaviour (numbers_from 1 v.session.clients)) (state v) refl
      session.derivation);
  log = refl;
}

pub ascending : (v : BoardView) → IsSession (program v) v.session.clients (events v) (state v) → IsStrictlyIncreasing (state v).open_clients
ascending v session =
    increases 1 (v.session.clients + 1) (state v).open_clients
    (open_rise (program v) v.session.clients (events v) (start_state session.behaviour (numbers_from 1 v.session.clients)) (state v) refl
    session.derivation)

module _ (client past : ℕ) (a b c : BoardView) (below : HaveLeftBelow client past a b) (next : LeavesIfOpen client b c) where
  abbrev now_open : List ℕ
  now_open = (state b).open_clients

  pub one_more : HaveLeftBelow (client + 1) past a c
  one_more = by_case next.leaves
    where
      by_case : HasLeftNow client b c ⊎ HasNotLeft client b c → HaveLeftBelow (client + 1) past a c
      by_case (inl l) =
          let first = begins_with client past now_open below.rise l.was_open in
          record {
            setting = same_setting a b c below.setting next.setting;
            driven = driving.onward a b c below.driven next.driven;
            pending = next.pending ∙ below.pending;
            rise = subst (Rise (client + 1) past) (sym l.clients) first.1;
            log =
                ap (λ xs. xs ++ map left (state c).open_clients) l.log
                ∙ ap (λ ks. (events b ++ left client ∷ []) ++ map left ks) l.clients
                ∙ append_assoc (events b) (left client ∷ []) (map left (others client now_open))
                ∙ ap (λ ks. events b ++ map left ks) (sym first.0)
                ∙ below.log;
          }
      by_case (inr s) = record {
        setting = same_setting a b c below.setting next.setting;
        driven = driving.onward a b c below.driven next.driven;
        pending = next.pending ∙ below.pending;
        rise = subst (Rise (client + 1) past) (sym s.clients) (begins_later client past now_open below.rise s.was_not_open);
        log =
            ap (λ xs. xs ++ map left (state c).open_clients) s.log ∙ ap (λ ks. events b ++ map left ks) s.clients ∙ below.log;
      }

-- where none is left that is open, all have left
pub all_left : (next past : ℕ) (old new : BoardView) → past ≤ next → IsStrictlyIncreasing (state old).open_clients →
    HaveLeftBelow next past old new → AllLeave old new
all_left next past old new l rising h =
    let closed = none_rise next past (state new).open_clients l h.rise in
    record {
      setting = h.setting;
      driven = h.driven;
      log = sym (append-nil (events new)) ∙ ap (λ ks. events new ++ map left ks) (sym closed) ∙ h.log;
      ascending = rising;
      closed = closed;
    }

-- driven logs

driven_on : (old new : BoardView) → SameSetting old new → StaysDriven old new →
    IsDriven (program old) old.settings old.session.clients old.stop (events old) (state old) →
    IsDriven (program old) old.settings old.session.clients new.stop (events new) (state new)
driven_on old new setting stays h =
    let start = start_state h.behaviour (numbers_from 1 old.session.clients) in
    record {
      behaviour = h.behaviour;
      start = h.start;
      driven =
          subst (λ (p : Program). IsDrivenLog p old.settings start new.stop (events new) (state new)) (ap program_of setting.0.0)
          (subst (λ (k : Settings). IsDrivenLog (program new) k start new.stop (events new) (state new)) setting.1
          (stays start h.driven));
    }

-- the session of a board that is settled with no client open, over the names of the board that it was
module _ (v b m : BoardView) (leave : AllLeave v b) (goes : GoesOn b m) (log : List Event) (is : log ≡ events m) where
  abbrev more : List Event
  more = map event_of goes.more

  grown : events m ≡ events b ++ more
  grown = ap (map event_of) goes.log ∙ map-append event_of b.session.entries goes.more

  of_events : (xs : List Entry) → Each (λ entry. IsOfClient (event_of entry) → ⊥) xs → Each (λ event. IsOfClient event → ⊥) (map event_of xs)
  of_events [] h = tt
  of_events (x ∷ xs) h = (h.0, of_events xs h.1)

  pub closed_off : IsClosedOff v log
  closed_off = record {
    rest = more;
    goes_on = is ∙ grown ∙ ap (λ xs. xs ++ more) leave.log;
    ascending = leave.ascending;
    own = of_events goes.more goes.own;
  }

  module _ (same : SameSession b m) (settled : IsSettledOn m) (ending : Ending)
      (ends : IsEndingOf (program m) m.settings (state m) m.stop ending) where
    setting : SameSetting v m
    setting = same_setting v b m leave.setting goes.setting

    pub whole_session : IsDriven (program v) v.settings v.session.clients v.stop (events v) (state v) →
        IsWholeSession (program v) v.settings v.session.clients log ending
    whole_session driven =
        let on = driven_on v m setting (driving.onward v b m leave.driven goes.driven) driven in
        record {
          stop = m.stop;
          last = state m;
          driven = subst (λ l. IsDriven (program v) v.settings v.session.clients m.stop l (state m)) (sym is) on;
          settled =
              subst (λ (p : Program). IsSettledAt p v.settings m.stop (state m)) (ap program_of setting.0.0)
              (subst (λ (k : Settings). IsSettledAt (program m) k m.stop (state m)) setting.1 settled.at);
          closed = same.1 ∙ leave.closed;
          ends =
              subst (λ (p : Program). IsEndingOf p v.settings (state m) m.stop ending) (ap program_of setting.0.0)
              (subst (λ (k : Settings). IsEndingOf (program m) k (state m) m.stop ending) setting.1 ends);
        }
