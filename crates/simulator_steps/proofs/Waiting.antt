-- Jobs are done, and nothing is appended.
use Rattle.std.proofs.Common.{◌≡◌, ◌⊎◌, ◌∙◌, inl, inr, refl, sym, Option, Some, None}
use Rattle.board_laws.specs.declared.stop_reason.StopReason.{StopReason}
use Rattle.board_laws.specs.Reasons.{IsReasonToStop}
use Rattle.board_core.specs.Views.{BoardView, program, state, SameLog, SameSession}
use Rattle.board_core.specs.Working.{first_reason}
use Rattle.board_work.specs.Handed.{HandsIn, StopsNow}
use Rattle.board_work.specs.Settling.{HasComeNext}
use Rattle.board_lists.specs.Leaving.{IsStoppedRightly}
use Rattle.board_lists.proofs.Leaving.{reason_stays}
use Rattle.board_work.proofs.Going.{one_session}
use Rattle.simulator_steps.specs.Asking.{ComesNext, OnlyWaits}

pub one_log : (a b c : BoardView) → SameLog a b → SameLog b c → SameLog a c
one_log a b c x y = (y.0 ∙ x.0, y.1 ∙ x.1, y.2 ∙ x.2)

module _ (old new : BoardView) (session : SameSession old new) (log : SameLog old new) where
  -- the reason, if one had stopped the session, is the same
  pub stays : new.stop ≡ old.stop → OnlyWaits old new
  stays e = record { session = session; log = log; stop = inl e }

  -- a reason that is so stops it
  pub stops : old.stop ≡ None → (reason : StopReason) → IsReasonToStop (program old) old.settings (state old) reason →
      new.stop ≡ Some reason → OnlyWaits old new
  stops none reason so stop = record {
    session = session;
    log = log;
    stop = inr (none, (reason, stop, reason_stays old new session log reason so));
  }

-- nothing has happened
pub at_first : (v : BoardView) → OnlyWaits v v
at_first v = stays v v (((refl, refl), refl, refl), refl) (refl, refl, refl) refl

pub onward : (a b c : BoardView) → OnlyWaits a b → OnlyWaits b c → OnlyWaits a c
onward a b c x y = record {
  session = one_session a b c x.session y.session;
  log = one_log a b c x.log y.log;
  stop = by_stops x.stop y.stop;
}
  where
    by_stops : (b.stop ≡ a.stop) ⊎ ((a.stop ≡ None) × IsStoppedRightly b) → (c.stop ≡ b.stop) ⊎ ((b.stop ≡ None) × IsStoppedRightly c) →
        (c.stop ≡ a.stop) ⊎ ((a.stop ≡ None) × IsStoppedRightly c)
    by_stops (inl e) (inl f) = inl (f ∙ e)
    by_stops (inl e) (inr (none, s)) = inr (sym e ∙ none, s)
    by_stops (inr (none, (reason, stop, so))) (inl f) =
        inr (none, (reason, f ∙ stop, reason_stays b c y.session y.log reason so))
    by_stops (inr (none, s)) (inr (running, t)) = inr (none, t)

-- what came of a job is handed in
pub handed : (old new : BoardView) → HandsIn old new → OnlyWaits old new
handed old new h = by_stop h.stop
  where
    by_reason : (reason : StopReason) → IsReasonToStop (program old) old.settings (state old) reason → (o : Option StopReason) →
        old.stop ≡ o → new.stop ≡ first_reason o reason → OnlyWaits old new
    by_reason reason so None e f = stops old new h.session h.log e reason so f
    by_reason reason so (Some first) e f = stays old new h.session h.log (f ∙ sym e)

    by_stop : (new.stop ≡ old.stop) ⊎ StopsNow old new → OnlyWaits old new
    by_stop (inl same) = stays old new h.session h.log same
    by_stop (inr (reason, is_so, asked, stop)) = by_reason reason is_so old.stop refl stop

-- then the next entry comes
pub comes : (old new : BoardView) → HasComeNext old new → ComesNext old new
comes old new h = record { ready = h.ready; waits = handed old h.ready h.handed; settled = h.settled }

pub comes_later : (a b c : BoardView) → OnlyWaits a b → ComesNext b c → ComesNext a c
comes_later a b c waits h = record { ready = h.ready; waits = onward a b h.ready waits h.waits; settled = h.settled }
