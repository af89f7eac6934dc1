-- How runs go on, on boards.
use Rattle.std.proofs.Common.{ℕ, inl, inr, ◌≡◌, ◌⊎◌, ◌∙◌, List, [], ◌∷◌, ◌++◌, length, map, refl, sym, ap, subst, Option, Some, None, append_assoc}
use Rattle.spec_core.specs.declared.code.Checked.{Checked}
use Rattle.run_settings.specs.declared.settings.Settings.{Settings}
use Rattle.spec_core.specs.Code.{Program, program_of}
use Rattle.rule_model.specs.declared.reply.LimitKind.TheVariants.{Steps}
use Rattle.rule_model.specs.Behaviours.{Behaviour}
use Rattle.rule_model.specs.Code.{IsStart}
use Rattle.rule_model.specs.Events.{Ending, Event, left, pended}
use Rattle.rule_model.specs.Legal.{IsDerivation}
use Rattle.rule_model.specs.Wishes.{Wish}
use Rattle.rule_model.specs.States.{State, after_leave, after_offer, start_state}
use Rattle.board_record.specs.Records.{IsSession}
use Rattle.log_states.specs.Clients.{numbers_from}
use Rattle.log_states.specs.Possible.{MayLeave, MayOffer}
use Rattle.board_laws.specs.declared.stop_reason.StopReason.{StopReason}
use Rattle.board_laws.specs.declared.stop_reason.StopReason.TheVariants.{Limit}
use Rattle.board_laws.specs.Reasons.{IsAskedByRules, IsReasonToStop}
use Rattle.client_laws.specs.Ends.{IsEndingOf}
use Rattle.client_laws.specs.Runs.{IsClientRun, IsRun, IsSettledAt, clients_for, run_begins, run_goes_on, run_leaves, run_offers, run_stops, run_tells}
use Rattle.board_core.specs.Settled.{HasSettled, IsSettled, settled_next, settled_stopped, settled_limit}
use Rattle.board_core.specs.Views.{BoardView, program, events, state, SameLog, SameSession, SameSetting}
use Rattle.board_core.specs.Working.{first_reason}
use Rattle.board_work.specs.Handed.{HandsIn, StopsNow}
use Rattle.client_runs.specs.Runs.{Continues, HasBegun, IsEndedRun, IsRunOn, IsSettledOn}

-- a run of the old board's specification and settings is one of the new one's
pub moved_to : (old new : BoardView) → SameSetting old new →
    (start : State) (stop : Option StopReason) (wishes : List Wish) (log : List Event) (s : State) →
    IsRun (program old) old.settings start stop wishes log s → IsRun (program new) new.settings start stop wishes log s
moved_to old new setting start stop wishes log s run =
    subst (λ (k : Settings). IsRun (program new) k start stop wishes log s) (sym setting.1)
    (subst (λ (p : Program). IsRun p old.settings start stop wishes log s) (ap program_of (sym setting.0.0)) run)

module _ (old new : BoardView) (same : SameSession old new) where
  moved : (start : State) (stop : Option StopReason) (wishes : List Wish) (log : List Event) (s : State) →
      IsRun (program old) old.settings start stop wishes log s → IsRun (program new) new.settings start stop wishes log s
  moved = moved_to old new same.0

  -- the same log and state
  kept : SameLog old new → (start : State) (stop : Option StopReason) (wishes : List Wish) →
      IsRun (program old) old.settings start stop wishes (events old) (state old) →
      IsRun (program old) old.settings start stop wishes (events new) (state new)
  kept log start stop wishes run =
      subst (λ (l : List Event). IsRun (program old) old.settings start stop wishes l (state new)) (sym log.0)
      (subst (IsRun (program old) old.settings start stop wishes (events old)) (sym log.1) run)

  for_stop : (start : State) (wishes : List Wish) (log : List Event) (s : State) (stop other : Option StopReason) → stop ≡ other →
      IsRun (program old) old.settings start stop wishes log s → IsRun (program old) old.settings start other wishes log s
  for_stop start wishes log s stop other e run = subst (λ (z : Option StopReason). IsRun (program old) old.settings start z wishes log s) e run

  -- what the board settles goes on with the run
  pub settled : HasSettled old new → Continues old new
  settled h start wishes run = moved start new.stop wishes (events new) (state new) (by_why h.why)
    where
      by_why : IsSettled old new h.event → IsRun (program old) old.settings start new.stop wishes (events new) (state new)
      by_why (settled_next e f next known) =
          run_goes_on (events old) h.event (state old) f h.log
          (for_stop start wishes (events old) (state old) old.stop new.stop (e ∙ sym f) run) next h.possible
      by_why (settled_stopped reason e f told) =
          run_tells reason (events old) h.event (state old) f h.log
          (for_stop start wishes (events old) (state old) old.stop new.stop (e ∙ sym f) run) told h.possible
      by_why (settled_limit e f limit told) =
          run_tells (Limit Steps) (events old) h.event (state old) f h.log
          (run_stops (Limit Steps) f (for_stop start wishes (events old) (state old) old.stop None e run) limit.at tt) told h.possible

  -- nothing has happened
  pub same_run : SameLog old new → new.stop ≡ old.stop → Continues old new
  same_run log stop start wishes run =
      moved start new.stop wishes (events new) (state new)
      (kept log start new.stop wishes (for_stop start wishes (events old) (state old) old.stop new.stop (sym stop) run))

  -- a reason that is so, where the rules have something left to ask, stops the run, unless another has
  pub stopped : SameLog old new → (reason : StopReason) → IsReasonToStop (program old) old.settings (state old) reason →
      IsAskedByRules (program old) old.settings (state old) reason → new.stop ≡ first_reason old.stop reason → Continues old new
  stopped log reason is_so asked stop start wishes run =
      moved start new.stop wishes (events new) (state new)
      (kept log start new.stop wishes (by_stop old.stop stop run))
    where
      by_stop : (o : Option StopReason) → new.stop ≡ first_reason o reason →
          IsRun (program old) old.settings start o wishes (events old) (state old) →
          IsRun (program old) old.settings start new.stop wishes (events old) (state old)
      by_stop None e r = run_stops reason e r is_so asked
      by_stop (Some first) e r = for_stop start wishes (events old) (state old) (Some first) new.stop (sym e) r

pub onward : (a b c : BoardView) → Continues a b → Continues b c → Continues a c
onward a b c f g start wishes run = g start wishes (f start wishes run)

-- what came of a job is handed in
pub handed : (old new : BoardView) → HandsIn old new → Continues old new
handed old new h = by_stop h.stop
  where
    by_stop : (new.stop ≡ old.stop) ⊎ StopsNow old new → Continues old new
    by_stop (inl same) = same_run old new h.session h.log same
    by_stop (inr (reason, is_so, asked, stop)) = stopped old new h.session h.log reason is_so asked stop

-- what the client does, where nothing else is left to be done
module _ (old new : BoardView) (setting : SameSetting old new) (settled : IsSettledOn old) (stop : new.stop ≡ old.stop) where
  settled_so : IsSettledAt (program old) old.settings new.stop (state old)
  settled_so = subst (λ (o : Option StopReason). IsSettledAt (program old) old.settings o (state old)) (sym stop) settled.at

  so_far : (start : State) (made : List Wish) → IsRunOn start made old →
      IsRun (program old) old.settings start new.stop made (events old) (state old)
  so_far start made run =
      subst (λ (o : Option StopReason). IsRun (program old) old.settings start o made (events old) (state old)) (sym stop) run

  -- it makes an offer
  pub offered : (number : ℕ) (wish : Wish) → MayOffer (length (program old).gates) (state old) 1 number wish.offer →
      events new ≡ events old ++ pended 1 number wish.offer wish.ask ∷ [] → state new ≡ after_offer (state old) 1 number wish.offer wish.ask →
      (start : State) (made : List Wish) → IsRunOn start made old → IsRunOn start (made ++ wish ∷ []) new
  offered number wish may log after start made run =
      moved_to old new setting start new.stop (made ++ wish ∷ []) (events new) (state new)
      (run_offers made wish (events old) number (state old) refl log (so_far start made run) settled_so
      (may.is_open, may.idle, may.next, may.gate, after))

  -- it leaves
  pub has_left : MayLeave (state old) 1 → events new ≡ events old ++ left 1 ∷ [] → state new ≡ after_leave (state old) 1 → Continues old new
  has_left may log after start made run =
      moved_to old new setting start new.stop made (events new) (state new)
      (run_leaves (events old) (state old) log (so_far start made run) settled_so (may.is_open, may.idle, after))

-- a session begins
pub begun : (v : BoardView) (clients : ℕ) → v.stop ≡ None → events v ≡ [] → IsSession (program v) clients (events v) (state v) →
    HasBegun clients v
begun v clients stop none session =
    let start = start_state session.behaviour (numbers_from 1 clients) in
    let at : state v ≡ start = subst (λ l. IsDerivation (program v) l start (state v)) none session.derivation in
    record {
      behaviour = session.behaviour;
      start = session.start;
      run = run_begins stop refl none at;
      all_open = ap (λ (s : State). s.open_clients) at;
    }

-- the run of a client that has ended is its session
pub is_client_run : (program : Program) (settings : Settings) (wishes : List Wish) (log : List Event) (ending : Ending) (behaviour : Behaviour) →
    IsStart program behaviour →
    IsEndedRun program settings (start_state behaviour (numbers_from 1 (clients_for wishes))) wishes log ending →
    IsClientRun program settings wishes log ending
is_client_run program settings wishes log ending behaviour start h = record {
  behaviour = behaviour;
  start = start;
  stop = h.stop;
  last = h.last;
  run = h.run;
  settled = h.settled;
  closed = h.closed;
  ends = h.ends;
}

-- after one offer and the others, all are made
pub all_offered : (a b : BoardView) (all : List Wish) (wish : Wish) (others : List Wish) → all ≡ wish ∷ others → (m : BoardView) →
    ((start : State) (made : List Wish) → IsRunOn start made a → IsRunOn start (made ++ wish ∷ []) m) →
    ((start : State) (made : List Wish) → IsRunOn start made m → IsRunOn start (made ++ others) b) →
    (start : State) (made : List Wish) → IsRunOn start made a → IsRunOn start (made ++ all) b
all_offered a b all wish others e m f g start made run =
    subst (λ (l : List Wish). IsRunOn start l b) (append_assoc made (wish ∷ []) others ∙ ap (λ (l : List Wish). made ++ l) (sym e))
    (g start (made ++ wish ∷ []) (f start made run))

-- a run that has ended, over another board's names
pub ended_by : (v : BoardView) (m : BoardView) → SameSession v m → IsSettledOn m → (state v).open_clients ≡ [] → Continues v m →
    (log : List Event) → log ≡ events m → (ending : Ending) → IsEndingOf (program m) m.settings (state m) m.stop ending →
    (start : State) (wishes : List Wish) → IsRunOn start wishes v → IsEndedRun (program v) v.settings start wishes log ending
ended_by v m same settled closed continues log e ending ends start wishes run =
    subst (λ (p : Program). IsEndedRun p v.settings start wishes log ending) (ap program_of same.0.0.0)
    (subst (λ (k : Settings). IsEndedRun (program m) k start wishes log ending) same.0.1
    (record {
      stop = m.stop;
      last = state m;
      run = subst (λ (l : List Event). IsRun (program m) m.settings start m.stop wishes l (state m)) (sym e) (continues start wishes run);
      settled = settled.at;
      closed = same.1 ∙ closed;
      ends = ends;
    }))

-- the run of a board that began with the clients for these wishes, once it has ended, is a session of the specification
pub session_of : (v : BoardView) (checked : Checked) (settings : Settings) → v.session.checked ≡ checked → v.settings ≡ settings →
    (clients : ℕ) (wishes : List Wish) (log : List Event) (ending : Ending) → clients ≡ clients_for wishes → (b : HasBegun clients v) →
    IsEndedRun (program v) v.settings (start_state b.behaviour (numbers_from 1 clients)) wishes log ending →
    IsClientRun (program_of checked) settings wishes log ending
session_of v checked settings e f clients wishes log ending count b h =
    subst (λ (k : Checked). IsClientRun (program_of k) settings wishes log ending) e
    (subst (λ (k : Settings). IsClientRun (program v) k wishes log ending) f
    (is_client_run (program v) v.settings wishes log ending b.behaviour b.start
    (subst (λ (n : ℕ). IsEndedRun (program v) v.settings (start_state b.behaviour (numbers_from 1 n)) wishes log ending) count h)))

-- one client makes some wishes
pub one_for : {A : Type 0} (f : A → Wish) (xs : List A) → (xs ≡ [] → ⊥) → 1 ≡ clients_for (map f xs)
one_for f [] some = absurd (some refl)
one_for f (x ∷ xs) some = refl

-- a run that has ended on a later board of the session
pub ended_there : (v m : BoardView) → SameSetting v m → (start : State) (wishes : List Wish) (log : List Event) (ending : Ending) →
    IsEndedRun (program m) m.settings start wishes log ending → IsEndedRun (program v) v.settings start wishes log ending
ended_there v m setting start wishes log ending h =
    subst (λ (p : Program). IsEndedRun p v.settings start wishes log ending) (ap program_of setting.0.0)
    (subst (λ (k : Settings). IsEndedRun (program m) k start wishes log ending) setting.1 h)
