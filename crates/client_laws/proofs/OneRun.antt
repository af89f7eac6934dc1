-- Where there is one session.
use Rattle.std.proofs.Common.{ℕ, ◌≡◌, ◌∙◌, refl, sym, ap, subst, List, [], Option, Some}
use Rattle.std.proofs.lemmas.List.{append-nil}
use Rattle.run_settings.specs.declared.settings.Settings.{Settings}
use Rattle.spec_core.specs.Code.{Program}
use Rattle.spec_core.specs.Ready.{IsReady}
use Rattle.spec_core.proofs.Options.{some_none}
use Rattle.rule_laws.proofs.OneStep.{one_behaviour}
use Rattle.rule_model.specs.declared.reply.LimitKind.TheVariants.{Steps, Spread, Offers}
use Rattle.rule_model.specs.Behaviours.{Behaviour}
use Rattle.rule_model.specs.Events.{Event, Ending}
use Rattle.rule_model.specs.Wishes.{Wish}
use Rattle.rule_model.specs.States.{State, start_state}
use Rattle.log_states.specs.Clients.{numbers_from}
use Rattle.board_laws.specs.declared.stop_reason.StopReason.{StopReason}
use Rattle.board_laws.specs.declared.stop_reason.StopReason.TheVariants.{Spent, TooLarge, Limit}
use Rattle.board_laws.specs.Stopping.{ending_by}
use Rattle.board_laws.specs.Reasons.{IsReasonToStop}
use Rattle.client_laws.specs.Ends.{IsEndingOf, ends_by_reason, ends_by_exit, ends_by_trees}
use Rattle.client_laws.specs.Laws.{SessionsAreOne, NoOtherSession}
use Rattle.client_laws.specs.OneRun.{IsUnstoppedButBySteps, OnlyStepsStop}
use Rattle.client_laws.specs.Runs.{IsClientRun, clients_for}
use Rattle.client_laws.proofs.Derivations.{derives}
use Rattle.client_laws.proofs.Moves.{Point, point, Chain, chained, chain_run, Leads, log_begins, stopped}
use Rattle.client_laws.proofs.OneEnd.{one_ending}
use Rattle.client_laws.proofs.OnePoint.{Ahead, OnlySteps, Final, leads_ahead, on_the_way, one_end}

-- a reason by whose end the session isn't stopped, or by the number of actions, is that
by_steps : (reason : StopReason) → IsUnstoppedButBySteps (ending_by reason) → reason ≡ Limit Steps
by_steps (Spent term) h = absurd h
by_steps (TooLarge term) h = absurd h
by_steps (Limit Steps) h = refl
by_steps (Limit Spread) h = absurd h
by_steps (Limit Offers) h = absurd h

ends_by_steps : (program : Program) (settings : Settings) (s : State) (stop : Option StopReason) (ending : Ending) →
    IsEndingOf program settings s stop ending → IsUnstoppedButBySteps ending → (reason : StopReason) → stop ≡ Some reason →
    reason ≡ Limit Steps
ends_by_steps program settings s stop ending (ends_by_reason other e f) h reason k =
    let same : other ≡ reason = let both : Some other ≡ Some reason = sym e ∙ k in cc in
    by_steps reason (subst IsUnstoppedButBySteps (f ∙ ap ending_by same) h)
ends_by_steps program settings s stop ending (ends_by_exit e ended f) h reason k = absurd (some_none stop k e)
ends_by_steps program settings s stop ending (ends_by_trees e on trees) h reason k = absurd (some_none stop k e)

module _ (program : Program) (settings : Settings) (ready : IsReady program) (wishes : List Wish) where
  abbrev start : Behaviour → State
  start b = start_state b (numbers_from 1 (clients_for wishes))

  module _ (log : List Event) (ending : Ending) (run : IsClientRun program settings wishes log ending) where
    abbrev end : Point
    end = point run.stop wishes log run.last

    ahead : Ahead program settings ready wishes end
    ahead = record { rest = []; made = append-nil wishes; gone = λ out. refl }

    final : Final program settings ready wishes end
    final = record { closed = run.closed; settled = run.settled }

    chain : (n : ℕ) × Chain program settings (start run.behaviour) n end
    chain = chained program settings (start run.behaviour) run.stop wishes log run.last run.run

    -- the same from the behaviour of another session
    chain_from : (b : Behaviour) → run.behaviour ≡ b → (n : ℕ) × Chain program settings (start b) n end
    chain_from b same = (chain.0, subst (λ z. Chain program settings (start z) chain.0 end) same chain.1)

    unstopped : IsUnstoppedButBySteps ending → OnlySteps program settings ready wishes end
    unstopped h reason e = ends_by_steps program settings run.last run.stop ending run.ends h reason e

  module _ (log other_log : List Event) (ending other_ending : Ending) (run : IsClientRun program settings wishes log ending)
      (other : IsClientRun program settings wishes other_log other_ending) where
    same_start : other.behaviour ≡ run.behaviour
    same_start = one_behaviour program program.start other.behaviour run.behaviour other.start run.start

    other_chain : (n : ℕ) × Chain program settings (start run.behaviour) n (end other_log other_ending other)
    other_chain = chain_from other_log other_ending other run.behaviour same_start

    same_end : OnlySteps program settings ready wishes (end log ending run) →
        OnlySteps program settings ready wishes (end other_log other_ending other) → (other_log ≡ log) × (other_ending ≡ ending)
    same_end h k =
        let c = chain log ending run in
        let same = one_end program settings ready wishes (start run.behaviour) c.0 other_chain.0 (end log ending run)
        (end other_log other_ending other) (final log ending run) (ahead log ending run) h (final other_log other_ending other)
        (ahead other_log other_ending other) k c.1 other_chain.1 in (
          ap (λ z. z.log) same,
          one_ending program settings run.last run.stop other_ending ending
              (subst (λ z. IsEndingOf program settings z.state z.stop other_ending) same other.ends) run.ends,
        )

    module _ (only : OnlyStepsStop program settings wishes log) where
      -- a reason that is so at a point on the way
      on_way : (n : ℕ) (b : Point) → Chain program settings (start run.behaviour) n b → Leads program settings b (end log ending run) →
          (reason : StopReason) → IsReasonToStop program settings b.state reason → reason ≡ Limit Steps
      on_way n b chain leads reason is_so =
          let r = log_begins program settings b (end log ending run) leads in
          only run.behaviour run.start b.log r.0 r.1 b.state
          (derives program settings (start run.behaviour) b.stop b.made b.log b.state
          (chain_run program settings (start run.behaviour) n b chain)) reason is_so

      own_steps : OnlySteps program settings ready wishes (end log ending run)
      own_steps reason e =
          let c = chain log ending run in
          let r = stopped program settings (start run.behaviour) c.0 (end log ending run) c.1 reason e in
          on_way r.number r.place r.chain r.leads reason r.is_so

      other_steps : OnlySteps program settings ready wishes (end other_log other_ending other)
      other_steps reason e =
          let c = chain log ending run in
          let r = stopped program settings (start run.behaviour) other_chain.0 (end other_log other_ending other) other_chain.1 reason e in
          on_way r.number r.place r.chain
          (on_the_way program settings ready wishes (start run.behaviour) c.0 r.number (end log ending run) r.place (final log ending run)
          (ahead log ending run) own_steps
          (leads_ahead program settings ready wishes r.place (end other_log other_ending other) r.leads
          (ahead other_log other_ending other))
          (λ why k. absurd (some_none r.place.stop k r.ran)) c.1 r.chain) reason r.is_so

pub sessions_are_one : SessionsAreOne
sessions_are_one program settings wishes log other_log ending other_ending ready run h other k =
    same_end program settings ready wishes log other_log ending other_ending run other
    (unstopped program settings ready wishes log ending run h) (unstopped program settings ready wishes other_log other_ending other k)

pub no_other_session : NoOtherSession
no_other_session program settings wishes log other_log ending other_ending ready run only other =
    same_end program settings ready wishes log other_log ending other_ending run other
    (own_steps program settings ready wishes log other_log ending other_ending run other only)
    (other_steps program settings ready wishes log other_log ending other_ending run other only)
