-- Driven logs are legal.
use Rattle.std.proofs.Common.{ℕ, ◌≡◌, ◌∙◌, refl, sym, ap, subst, List, [], ◌∷◌, ◌++◌, Option, Some, None, inl, inr}
use Rattle.run_settings.specs.declared.settings.Settings.{Settings}
use Rattle.spec_core.specs.Code.{Program}
use Rattle.spec_core.specs.Lists.{Each}
use Rattle.spec_core.specs.Ready.{IsReady}
use Rattle.rule_model.specs.Events.{Event, pended, acted, replied, stalled, left}
use Rattle.rule_model.specs.States.{State, start_state}
use Rattle.log_states.specs.Clients.{numbers_from}
use Rattle.board_laws.specs.declared.stop_reason.StopReason.{StopReason}
use Rattle.board_laws.specs.Next.{IsStopReply}
use Rattle.board_laws.specs.Stopping.{answer_by}
use Rattle.client_laws.specs.Justified.{IsJustified, IsJustifiedLog, ComesAfterStop, StopsFor}
use Rattle.client_laws.proofs.Justified.{next_justifies, stop_justifies}
use Rattle.session_laws.specs.Laws.{DrivenLogsAreDerivations, DrivenLogsAreLegal}
use Rattle.session_laws.specs.Logs.{IsOfClient, IsLogBy, ComesByRules, ComesByReason, IsDrivenLog}
use Rattle.session_laws.proofs.Logs.{behind, derives, in_other_way}
use Rattle.session_laws.proofs.Driven.{driven_derives}

module _ (program : Program) (settings : Settings) where
  -- an entry that a client makes needs no justification
  client_justifies : (stop : Option StopReason) (s : State) (event : Event) → IsOfClient event → IsJustified program settings s stop event
  client_justifies stop s (pended client number offer ask) own = tt
  client_justifies stop s (acted action d by) own = absurd own
  client_justifies stop s (replied client number answer) own = absurd own
  client_justifies stop s (stalled names) own = absurd own
  client_justifies stop s (left client) own = tt

  abbrev Justifies : Option StopReason → State → Event → Type 0
  Justifies stop s event = IsJustified program settings s stop event

  justified : (stop : Option StopReason) (xs : List Event) (s t : State) → IsLogBy program (Justifies stop) xs s t →
      IsJustifiedLog program settings stop xs s t
  justified stop [] s t h = h
  justified stop (x ∷ xs) s t (next, p, c, h) = (next, p, c, justified stop xs next t h)

  reason_justifies : (reason : StopReason) (s : State) (event : Event) → ComesByReason reason s event → Justifies (Some reason) s event
  reason_justifies reason s event (inl own) = client_justifies (Some reason) s event own
  reason_justifies reason s event (inr told) = stop_justifies program settings s (Some reason) reason event refl told

  module _ (ready : IsReady program) where
    rules_justify : (stop : Option StopReason) (s : State) (event : Event) → ComesByRules program settings s event → Justifies stop s event
    rules_justify stop s event (inl own) = client_justifies stop s event own
    rules_justify stop s event (inr next) = next_justifies program settings ready s stop event next

    driven_justified : (start : State) (stop : Option StopReason) (log : List Event) (s : State) →
        IsDrivenLog program settings start stop log s → IsJustifiedLog program settings stop log start s
    driven_justified start None log s h =
        justified None log start s (in_other_way program (ComesByRules program settings) (Justifies None) (rules_justify None) log start s h)
    driven_justified start (Some reason) log s h =
        subst (λ l. IsJustifiedLog program settings (Some reason) l start s) (sym h.parts)
        (justified (Some reason) (h.before ++ h.after) start s
        (behind program (Justifies (Some reason)) h.before h.after start h.middle s
        (in_other_way program (ComesByRules program settings) (Justifies (Some reason)) (rules_justify (Some reason)) h.before start h.middle
        h.by_rules)
        (in_other_way program (ComesByReason reason) (Justifies (Some reason)) (reason_justifies reason) h.after h.middle s h.by_reason)))

  -- what comes by a reason comes after the stop
  comes_after : (reason : StopReason) (s : State) (event : Event) → ComesByReason reason s event → ComesAfterStop reason event
  comes_after reason s (pended client number offer ask) c = tt
  comes_after reason s (left client) c = tt
  comes_after reason s event (inr (p, least, is)) = subst (ComesAfterStop reason) (sym is) (s.actions, refl)
  comes_after reason s (acted action d by) (inl own) = absurd own
  comes_after reason s (replied client number answer) (inl own) = absurd own
  comes_after reason s (stalled names) (inl own) = absurd own

  each_after : (reason : StopReason) (xs : List Event) (s t : State) → IsLogBy program (ComesByReason reason) xs s t →
      Each (ComesAfterStop reason) xs
  each_after reason [] s t h = tt
  each_after reason (x ∷ xs) s t (next, p, c, h) = (comes_after reason s x c, each_after reason xs next t h)

  pub driven_stops : (start : State) (reason : StopReason) (stop : Option StopReason) (log : List Event) (s : State) → stop ≡ Some reason →
      IsDrivenLog program settings start stop log s → StopsFor program settings log start reason
  driven_stops start reason None log s e h = let never : ⊥ = cc in absurd never
  driven_stops start reason (Some other) log s e h =
      let same : other ≡ reason = cc in
      subst (StopsFor program settings log start) same
      (record {
        before = h.before;
        after = h.after;
        parts = h.parts;
        middle = h.middle;
        leads = derives program (ComesByRules program settings) h.before start h.middle h.by_rules;
        is_so = h.is_so;
        asked = h.asked;
        comes = each_after other h.after h.middle s h.by_reason;
      })

pub driven_logs_are_legal : DrivenLogsAreLegal
driven_logs_are_legal program settings clients stop log s ready h = record {
  behaviour = h.behaviour;
  start = h.start;
  justified = driven_justified program settings ready (start_state h.behaviour (numbers_from 1 clients)) stop log s h.driven;
  stops = λ reason e. driven_stops program settings (start_state h.behaviour (numbers_from 1 clients)) reason stop log s e h.driven;
}

pub driven_logs_are_derivations : DrivenLogsAreDerivations
driven_logs_are_derivations program settings clients stop log s h =
    (h.behaviour, h.start, driven_derives program settings (start_state h.behaviour (numbers_from 1 clients)) stop log s h.driven)
