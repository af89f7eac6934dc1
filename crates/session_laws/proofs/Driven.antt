-- Driven logs go on.
use Rattle.std.proofs.Common.{◌≡◌, ◌∙◌, refl, sym, ap, subst, List, [], ◌∷◌, ◌++◌, append_assoc, append-nil, Option, Some, None, inl, inr}
use Rattle.run_settings.specs.declared.settings.Settings.{Settings}
use Rattle.spec_core.specs.Code.{Program}
use Rattle.rule_model.specs.Events.{Event}
use Rattle.rule_model.specs.Legal.{IsPossible, IsDerivation}
use Rattle.rule_model.specs.States.{State}
use Rattle.board_laws.specs.declared.stop_reason.StopReason.{StopReason}
use Rattle.board_laws.specs.Next.{IsNextEvent, IsStopReply}
use Rattle.board_laws.specs.Reasons.{IsAskedByRules, IsReasonToStop}
use Rattle.session_laws.specs.Logs.{IsOfClient, IsLogBy, ComesByRules, ComesByReason, IsStoppedLog, IsDrivenLog}
use Rattle.session_laws.proofs.Logs.{further, derives, behind}

module _ (program : Program) (settings : Settings) where
  -- how entries come, as long as no reason has stopped the session, and afterwards
  abbrev pub Comes : Option StopReason → State → Event → Type 0
  Comes None = ComesByRules program settings
  Comes (Some reason) = ComesByReason reason

  module _ (start : State) where
    -- one more entry
    pub goes_on : (stop : Option StopReason) (log : List Event) (event : Event) (s t : State) →
        IsDrivenLog program settings start stop log s → IsPossible program s event t → Comes stop s event →
        IsDrivenLog program settings start stop (log ++ event ∷ []) t
    goes_on None log event s t h possible comes = further program (ComesByRules program settings) log event start s t h possible comes
    goes_on (Some reason) log event s t h possible comes = record {
      before = h.before;
      after = h.after ++ event ∷ [];
      parts = ap (λ l. l ++ event ∷ []) h.parts ∙ append_assoc h.before h.after (event ∷ []);
      middle = h.middle;
      by_rules = h.by_rules;
      is_so = h.is_so;
      asked = h.asked;
      by_reason = further program (ComesByReason reason) h.after event h.middle s t h.by_reason possible comes;
    }

    -- an entry that a client makes
    pub by_client : (stop : Option StopReason) (log : List Event) (event : Event) (s t : State) →
        IsDrivenLog program settings start stop log s → IsPossible program s event t → IsOfClient event →
        IsDrivenLog program settings start stop (log ++ event ∷ []) t
    by_client None log event s t h possible own = goes_on None log event s t h possible (inl own)
    by_client (Some reason) log event s t h possible own = goes_on (Some reason) log event s t h possible (inl own)

    -- a reason that is so stops the session
    pub stops : (log : List Event) (s : State) (reason : StopReason) → IsDrivenLog program settings start None log s →
        IsReasonToStop program settings s reason → IsAskedByRules program settings s reason →
        IsDrivenLog program settings start (Some reason) log s
    stops log s reason h is_so asked = record {
      before = log;
      after = [];
      parts = sym (append-nil log);
      middle = s;
      by_rules = h;
      is_so = is_so;
      asked = asked;
      by_reason = refl;
    }

    pub driven_derives : (stop : Option StopReason) (log : List Event) (s : State) → IsDrivenLog program settings start stop log s →
        IsDerivation program log start s
    driven_derives None log s h = derives program (ComesByRules program settings) log start s h
    driven_derives (Some reason) log s h =
        subst (λ l. IsDerivation program l start s) (sym h.parts)
        (joined h.before h.after start h.middle s (derives program (ComesByRules program settings) h.before start h.middle h.by_rules)
        (derives program (ComesByReason reason) h.after h.middle s h.by_reason))
      where
        joined : (xs ys : List Event) (a b c : State) → IsDerivation program xs a b → IsDerivation program ys b c →
            IsDerivation program (xs ++ ys) a c
        joined [] ys a b c d e = subst (λ z. IsDerivation program ys z c) d e
        joined (x ∷ xs) ys a b c (next, p, d) e = (next, p, joined xs ys next b c d e)
