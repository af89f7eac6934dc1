-- A whole session tells of windows of its specification.
use Rattle.std.proofs.Common.{ℕ, ◌≤◌, ◌<◌, ◌≡◌, sym, ap, subst, arith, List, [], true, Option, Some, None, nat_lt, cond, length}
use Rattle.std.proofs.lemmas.Bool.{lt-ltb, le-ltb}
use Rattle.run_settings.specs.declared.settings.Settings.{Settings}
use Rattle.spec_core.specs.Code.{Program}
use Rattle.spec_core.specs.Theories.{Theory}
use Rattle.spec_core.specs.Windows.{IsWindow}
use Rattle.rule_model.specs.declared.reply.LimitKind.TheVariants.{Steps, Spread, Offers}
use Rattle.rule_model.specs.Events.{Event, Ending}
use Rattle.rule_model.specs.States.{State, start_state}
use Rattle.symbolic_rules.specs.Windows.{Windows, AreWindows}
use Rattle.log_states.specs.Clients.{numbers_from}
use Rattle.board_laws.specs.Next.{AreSessionWindows}
use Rattle.board_laws.specs.declared.stop_reason.StopReason.{StopReason}
use Rattle.board_laws.specs.declared.stop_reason.StopReason.TheVariants.{Spent, TooLarge, Limit}
use Rattle.board_laws.specs.Reasons.{IsReasonToStop}
use Rattle.client_laws.specs.Runs.{IsSettledAt, all_told, none_next}
use Rattle.session_laws.specs.Logs.{IsDrivenLog}
use Rattle.session_laws.specs.Sessions.{IsWholeSession}

-- the windows of the declared sorts, and none of others
abbrev of_declared : Theory → Windows → Windows
of_declared theory w = record {
  values = λ sort. cond (nat_lt sort (length theory.sorts)) (w.values sort) [];
  complete = λ sort. cond (nat_lt sort (length theory.sorts)) (w.complete sort) true;
}

never : {A : Type 0} (reason : StopReason) → None ≡ Some reason → A
never reason e = absurd (cc)

module _ (program : Program) (settings : Settings) where
  abbrev pub HasWindows : Type 0
  HasWindows = (w : Windows) × AreSessionWindows program settings w

  of_sized : (w : Windows) → AreWindows program.theory settings.values w → HasWindows
  of_sized w sized = (
    of_declared program.theory w,
    record {
      sized = λ sort declared.
          subst (λ b. IsWindow program.theory sort settings.values (cond b (w.values sort) []) (cond b (w.complete sort) true))
          (sym (lt-ltb sort (length program.theory.sorts) declared)) (sized sort declared);
      others = λ sort undeclared.
          let e = le-ltb sort (length program.theory.sorts) (past sort undeclared) in
          (ap (λ b. cond b (w.values sort) []) e, ap (λ b. cond b (w.complete sort) true) e);
    },
  )
    where
      past : (sort : ℕ) → (sort < length program.theory.sorts → ⊥) → length program.theory.sorts ≤ sort
      past sort undeclared = omega (arith, undeclared)

  by_reason : (s : State) (reason : StopReason) → IsReasonToStop program settings s reason → HasWindows
  by_reason s (Spent term) (asked, beyond) = of_sized asked.windows asked.sized
  by_reason s (TooLarge term) (asked, meets) = of_sized asked.windows asked.sized
  by_reason s (Limit Steps) at = (at.next.windows, at.next.of_session)
  by_reason s (Limit Spread) wide = of_sized wide.windows wide.sized
  by_reason s (Limit Offers) many = of_sized many.windows many.sized

  by_settled : (start : State) (stop : Option StopReason) (log : List Event) (s : State) → IsDrivenLog program settings start stop log s →
      IsSettledAt program settings stop s → HasWindows
  by_settled start None log s driven (none_next e goes next) = (next.windows, next.of_session)
  by_settled start None log s driven (all_told reason e none) = never reason e
  by_settled start (Some reason) log s driven settled = by_reason driven.middle reason driven.is_so

  pub tells_windows : (clients : ℕ) (log : List Event) (ending : Ending) → IsWholeSession program settings clients log ending → HasWindows
  tells_windows clients log ending h =
      by_settled (start_state h.driven.behaviour (numbers_from 1 clients)) h.stop log h.last h.driven.driven h.settled
