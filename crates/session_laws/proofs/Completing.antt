-- A whole session isn't stopped, unless a reason to stop is so on its way.
use Rattle.std.proofs.Common.{◌⊎◌, inl, inr, subst, sym}
use Rattle.rule_model.specs.States.{start_state}
use Rattle.log_states.specs.Clients.{numbers_from}
use Rattle.client_laws.specs.Ends.{IsEndingOf, ends_by_exit, ends_by_reason, ends_by_trees}
use Rattle.client_laws.specs.Justified.{IsUnstopped}
use Rattle.client_laws.proofs.Stopped.{by_trees}
use Rattle.session_laws.specs.Complete.{EndsByReason, WholeSessionsAreComplete}
use Rattle.session_laws.proofs.Legal.{driven_stops}

pub whole_sessions_are_complete : WholeSessionsAreComplete
whole_sessions_are_complete program settings clients log ending whole = by_end whole.ends
  where
    by_end : IsEndingOf program settings whole.last whole.stop ending →
        IsUnstopped ending ⊎ EndsByReason program settings clients log ending
    by_end (ends_by_reason reason e f) =
        inr (record {
          behaviour = whole.driven.behaviour;
          start = whole.driven.start;
          reason = reason;
          stops =
              driven_stops program settings (start_state whole.driven.behaviour (numbers_from 1 clients)) reason whole.stop log whole.last e
              whole.driven.driven;
          ends = f;
        })
    by_end (ends_by_exit e ended f) = inl (subst IsUnstopped (sym f) tt)
    by_end (ends_by_trees e on trees) = inl (by_trees program settings whole.last ending trees)
