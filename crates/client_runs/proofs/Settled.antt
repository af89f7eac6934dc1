-- Where nothing is left to be done.
use Rattle.std.proofs.Common.{ℕ, zero, suc, ◌≡◌, ◌⊎◌, inl, inr, ◌∙◌, List, [], ◌∷◌, refl, sym, subst, Option, Some, None, Contains, arith}
use Rattle.run_settings.specs.declared.settings.Settings.{Settings}
use Rattle.spec_core.specs.Code.{Program}
use Rattle.spec_core.specs.Ready.{IsReady}
use Rattle.spec_core.proofs.Members.{contains_none}
use Rattle.rule_model.specs.Legal as legal
use Rattle.rule_model.specs.States.{PendingOffer, State}
use Rattle.candidate_laws.proofs.Answers.{exact_answers_exist}
use Rattle.decision_trees.specs.Rules.{nothing}
use Rattle.candidate_laws.specs.TreeLaws.{lists_of}
use Rattle.candidate_laws.proofs.Testing.{asked_can_be_tested}
use Rattle.log_states.specs.Possible.{HasPending}
use Rattle.candidate_verdicts.specs.Known as known
use Rattle.candidates.specs.declared.job.NodeJob as declared
use Rattle.board_laws.proofs.Pending.{nothing_next_nothing_pending}
use Rattle.board_laws.specs.declared.stop_reason.StopReason.{StopReason}
use Rattle.board_offers.specs.Waiting.{waiting_in}
use Rattle.board_core.proofs.AllWait.{all_wait_is_decided}
use Rattle.client_laws.specs.Runs.{IsSettledAt, all_told, none_next}
use Rattle.board_core.specs.Ends.{ending_at}
use Rattle.board_core.specs.Awaiting.{AwaitsClients}
use Rattle.board_core.specs.Views.{BoardView, program, state, windows, decided_at}
use Rattle.client_runs.specs.Runs.{IsSettledOn}
use Rattle.client_runs.proofs.Endings.{end_is_known}

-- The one client that is open has no offer pending where nothing is left to be done.
one_waits : (s : State) (p : PendingOffer) → s.open_clients ≡ 1 ∷ [] → Contains s.pending p → p.client ≡ 1 → legal.AllWait s
one_waits s p e h f client among = (
  p.number,
  record {
    waits = p;
    among = h;
    client = f ∙ sym (alone client (subst (λ (l : List ℕ). Contains l client) e among));
    number = refl;
    holds = tt;
  },
)
  where
    alone : (k : ℕ) → Contains (1 ∷ []) k → k ≡ 1
    alone k (zero, l, g) = sym g
    alone k (suc i, l, g) = absurd (omega (arith, l))

-- where each open client waits and nothing is left to be done, no offer is pending
module _ (program : Program) (settings : Settings) (ready : IsReady program) (stop : Option StopReason) (s : State)
    (settled : IsSettledAt program settings stop s) where
  pub none_pending : legal.AllWait s → s.pending ≡ []
  none_pending waits = by_case settled
    where
      by_case : IsSettledAt program settings stop s → s.pending ≡ []
      by_case (all_told reason e none) = none
      by_case (none_next e rules next) =
          let exact = exact_answers_exist program ready in
          let tests = asked_can_be_tested program exact.0 next.windows exact.1 s.behaviour in
          nothing_next_nothing_pending (lists_of program exact.0 next.windows s.behaviour tests.0) (waiting_in s)
          (sym (next.next exact.0 tests.0 exact.1 tests.1)) ((all_wait_is_decided s).1 waits)

  -- the client is idle
  pub client_idle : s.open_clients ≡ 1 ∷ [] → legal.IsIdle s 1
  client_idle e p h f = contains_none p (subst (λ (l : List PendingOffer). Contains l p) (none_pending (one_waits s p e h f)) h)

  -- where no client is open
  pub none_left_pending : s.open_clients ≡ [] → s.pending ≡ []
  none_left_pending e = none_pending (all_wait_where_none e)
    where
      all_wait_where_none : s.open_clients ≡ [] → legal.AllWait s
      all_wait_where_none f client among = absurd (contains_none client (subst (λ (l : List ℕ). Contains l client) f among))

-- where no client is open, a session doesn't wait for its clients
pub closed_not_awaiting : (s : State) → s.open_clients ≡ [] → AwaitsClients s → ⊥
closed_not_awaiting s e awaits = awaits.some (λ client among. absurd (contains_none client (subst (λ (l : List ℕ). Contains l client) e among)))

-- a client that is idle has no offer pending
pub idle_has_none : (s : State) (client : ℕ) → legal.IsIdle s client → HasPending s client → ⊥
idle_has_none s client idle h = idle h.1.waits h.1.among h.1.client

module _ (v : BoardView) (ready : IsReady (program v)) (settled : IsSettledOn v) where
  -- the one client is idle on a board where nothing is left to be done
  pub idle_on : (state v).open_clients ≡ 1 ∷ [] → HasPending (state v) 1 → ⊥
  idle_on e = idle_has_none (state v) 1 (client_idle (program v) v.settings ready v.stop (state v) settled.at e)

  -- where no client is open, what is known decides how the session ends
  pub end_on : (state v).open_clients ≡ [] → ending_at v ≡ None → ⊥
  end_on e = end_is_known v (none_left_pending (program v) v.settings ready v.stop (state v) settled.at e) (λ stop. by_case (settled.known stop))
    where
      by_case : AwaitsClients (state v) ⊎ (decided_at v ≡ Some nothing) → decided_at v ≡ Some nothing
      by_case (inl awaits) = absurd (closed_not_awaiting (state v) e awaits)
      by_case (inr decided) = decided
