-- A run that has stopped stopped for its reason where this is so.
use Rattle.std.proofs.Common.{◌≡◌, ◌∙◌, refl, sym, ap, subst, List, [], ◌∷◌, ◌++◌, Option, Some, None}
use Rattle.std.proofs.lemmas.List.{append-nil}
use Rattle.run_settings.specs.declared.settings.Settings.{Settings}
use Rattle.spec_core.specs.Code.{Program}
use Rattle.spec_core.proofs.Lists.{each_push}
use Rattle.rule_model.specs.Events.{Event, pended, left, Ending, exits, deadlocked, waiting, ends_beyond, ends_spent, ends_too_large}
use Rattle.rule_model.specs.Events.{ends_at_limit}
use Rattle.rule_model.specs.Wishes.{Wish}
use Rattle.rule_model.specs.States.{State, start_state}
use Rattle.log_states.specs.Clients.{numbers_from}
use Rattle.board_laws.specs.declared.stop_reason.StopReason.{StopReason}
use Rattle.board_laws.specs.Next.{IsStopReply}
use Rattle.board_laws.specs.Stopping.{answer_by}
use Rattle.board_laws.specs.Reasons.{IsAskedByRules, IsReasonToStop}
use Rattle.client_laws.specs.Ends.{IsEndingOf, IsEndOfTrees, ends_by_reason, ends_by_exit, ends_by_trees}
use Rattle.client_laws.specs.Justified.{ComesAfterStop, StopsFor, IsUnstopped}
use Rattle.client_laws.specs.Laws.{RunsStopForReasons, ClientRunsAreComplete}
use Rattle.client_laws.specs.Runs.{IsRun, run_begins, run_offers, run_leaves, run_goes_on, run_stops, run_tells, clients_for}
use Rattle.client_laws.proofs.Derivations.{derives}

behind_both : {A : Type 0} (xs ys zs : List A) → (xs ++ ys) ++ zs ≡ xs ++ (ys ++ zs)
behind_both [] ys zs = refl
behind_both (x ∷ xs) ys zs = ap (λ l. x ∷ l) (behind_both xs ys zs)

module _ (program : Program) (settings : Settings) (start : State) (reason : StopReason) where
  abbrev Stopped : List Event → Type 0
  Stopped log = StopsFor program settings log start reason

  -- the reply that gives a reason comes of it
  comes_told : (m : State) (other : StopReason) (event : Event) → other ≡ reason → IsStopReply m other event → ComesAfterStop reason event
  comes_told m other event same (p, least, is) = subst (ComesAfterStop reason) (sym is) (m.actions, ap (answer_by m.actions) same)

  one_more : (log before : List Event) (event : Event) → log ≡ before ++ event ∷ [] → ComesAfterStop reason event → Stopped before →
      Stopped log
  one_more log before event e comes h = record {
    before = h.before;
    after = h.after ++ event ∷ [];
    parts = e ∙ ap (λ l. l ++ event ∷ []) h.parts ∙ behind_both h.before h.after (event ∷ []);
    middle = h.middle;
    leads = h.leads;
    is_so = h.is_so;
    asked = h.asked;
    comes = each_push (ComesAfterStop reason) h.after event h.comes comes;
  }

  stopped : (stop : Option StopReason) (wishes : List Wish) (log : List Event) (s : State) → stop ≡ Some reason →
      IsRun program settings start stop wishes log s → Stopped log
  stopped stop wishes log s q (run_begins a b e f) = let never : ⊥ = cc in absurd never
  stopped stop wishes log s q (run_offers made wish before number m w e run settled possible) =
      one_more log before (pended 1 number wish.offer wish.ask) e tt (stopped stop made before m q run)
  stopped stop wishes log s q (run_leaves before m e run settled possible) =
      one_more log before (left 1) e tt (stopped stop wishes before m q run)
  stopped stop wishes log s q (run_goes_on before event m a e run next possible) = let never : ⊥ = cc in absurd never
  stopped stop wishes log s q (run_stops other a run is_so asked) =
      let same : other ≡ reason = cc in
      record {
        before = log;
        after = [];
        parts = sym (append-nil log);
        middle = s;
        leads = derives program settings start None wishes log s run;
        is_so = subst (IsReasonToStop program settings s) same is_so;
        asked = subst (IsAskedByRules program settings s) same asked;
        comes = tt;
      }
  stopped stop wishes log s q (run_tells other before event m a e run told possible) =
      let same : other ≡ reason = cc in
      one_more log before event e (comes_told m other event same told) (stopped stop wishes before m q run)

pub runs_stop_for_reasons : RunsStopForReasons
runs_stop_for_reasons program settings start stop wishes log s run reason q =
    stopped program settings start reason stop wishes log s q run

-- an end by the trees isn't one by a reason
pub by_trees : (program : Program) (settings : Settings) (s : State) (ending : Ending) → IsEndOfTrees program settings s ending →
    IsUnstopped ending
by_trees program settings s exits h = absurd h
by_trees program settings s deadlocked h = tt
by_trees program settings s waiting h = tt
by_trees program settings s ends_beyond h = tt
by_trees program settings s (ends_spent term) h = absurd h
by_trees program settings s (ends_too_large term) h = absurd h
by_trees program settings s (ends_at_limit kind) h = absurd h

pub client_runs_are_complete : ClientRunsAreComplete
client_runs_are_complete program settings wishes log ending run never = by_end run.ends
  where
    start : State
    start = start_state run.behaviour (numbers_from 1 (clients_for wishes))

    by_end : IsEndingOf program settings run.last run.stop ending → IsUnstopped ending
    by_end (ends_by_reason reason e f) =
        absurd (never run.behaviour run.start reason
        (runs_stop_for_reasons program settings start run.stop wishes log run.last run.run reason e))
    by_end (ends_by_exit e ended f) = subst IsUnstopped (sym f) tt
    by_end (ends_by_trees e on trees) = by_trees program settings run.last ending trees
