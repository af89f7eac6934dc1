-- What a board does keeps its log driven.
use Rattle.std.proofs.Common.{◌≡◌, ◌∙◌, ◌⊎◌, sym, ap, subst, List, [], ◌∷◌, ◌++◌, map, Option, Some, None, inl, inr}
use Rattle.run_settings.specs.declared.settings.Settings.{Settings}
use Rattle.spec_core.specs.Code.{Program, program_of}
use Rattle.spec_core.specs.Lists.{IsOneOf}
use Rattle.rule_model.specs.declared.reply.LimitKind.TheVariants.{Steps, Offers}
use Rattle.rule_model.specs.Events.{Event}
use Rattle.rule_model.specs.Legal.{IsPossible}
use Rattle.rule_model.specs.States.{State}
use Rattle.board_laws.specs.declared.stop_reason.StopReason.{StopReason}
use Rattle.board_laws.specs.declared.stop_reason.StopReason.TheVariants.{Limit}
use Rattle.board_laws.specs.StoppingLaws.{GiveReasons}
use Rattle.board_laws.specs.Reasons.{AsksForTree}
use Rattle.candidates.specs.Jobs.{NodeJob, to_expand, to_judge, is_out}
use Rattle.candidates.specs.Models.{job_of}
use Rattle.board_core.specs.Settled.{HasSettled, IsQuiet, IsSettled, WhyQuiet, settled_next, settled_stopped, settled_limit, quiet_stopped}
use Rattle.board_core.specs.Settled.{quiet_undecided, quiet_nothing, quiet_limit}
use Rattle.board_core.specs.Views.{BoardView, program, events, needed_at, state, pieces, tree, windows, SameLog, SameSetting}
use Rattle.board_core.specs.Working.{IsVerdict, WhyNone, first_reason}
use Rattle.board_core.proofs.Knowing.{free_is_needed}
use Rattle.session_laws.specs.Logs.{IsOfClient, IsDrivenLog}
use Rattle.session_laws.proofs.Driven.{by_client, goes_on, stops}
use Rattle.board_work.specs.Driven.{StaysDriven}
use Rattle.board_work.specs.Handed.{HandsIn, StopsNow}

-- where a verdict is needed, the rules may ask for a tree
pub asked_at : (v : BoardView) → GiveReasons (program v) v.settings (windows v) (tree v) (pieces v) (state v) → (job : NodeJob) →
    IsVerdict job → IsOneOf job (needed_at v) → AsksForTree (program v) v.settings (state v)
asked_at v give (to_expand g) verdict needed = absurd verdict
asked_at v give (to_judge part) verdict needed = give.asked part needed

module _ (old new : BoardView) (setting : SameSetting old new) where
  -- what is driven by the old board's specification and settings is so by the new one's
  moved : (start : State) (stop : Option StopReason) (log : List Event) (s : State) →
      IsDrivenLog (program old) old.settings start stop log s → IsDrivenLog (program new) new.settings start stop log s
  moved start stop log s h =
      subst (λ (k : Settings). IsDrivenLog (program new) k start stop log s) (sym setting.1)
      (subst (λ (p : Program). IsDrivenLog p old.settings start stop log s) (ap program_of (sym setting.0.0)) h)

  -- of another stop, log and state by other names
  named : (start : State) (stop other : Option StopReason) → stop ≡ other →
      IsDrivenLog (program old) old.settings start stop (events old) (state old) →
      IsDrivenLog (program old) old.settings start other (events old) (state old)
  named start stop other e h = subst (λ z. IsDrivenLog (program old) old.settings start z (events old) (state old)) e h

  kept : SameLog old new → (start : State) (stop : Option StopReason) →
      IsDrivenLog (program old) old.settings start stop (events old) (state old) →
      IsDrivenLog (program old) old.settings start stop (events new) (state new)
  kept log start stop h =
      subst (λ l. IsDrivenLog (program old) old.settings start stop l (state new)) (sym log.0)
      (subst (λ s. IsDrivenLog (program old) old.settings start stop (events old) s) (sym log.1) h)

  longer : (start : State) (stop : Option StopReason) (event : Event) → events new ≡ events old ++ event ∷ [] →
      IsDrivenLog (program old) old.settings start stop (events old ++ event ∷ []) (state new) →
      IsDrivenLog (program old) old.settings start stop (events new) (state new)
  longer start stop event e h = subst (λ l. IsDrivenLog (program old) old.settings start stop l (state new)) (sym e) h

  -- an entry of a client
  pub client_acts : (event : Event) → events new ≡ events old ++ event ∷ [] → IsPossible (program old) (state old) event (state new) →
      IsOfClient event → new.stop ≡ old.stop → StaysDriven old new
  client_acts event log possible own same start h =
      moved start new.stop (events new) (state new)
      (longer start new.stop event log
      (by_client (program old) old.settings start new.stop (events old) event (state old) (state new) (named start old.stop new.stop (sym same) h)
      possible own))

  -- what the board settles
  pub settled : HasSettled old new → StaysDriven old new
  settled h start driven = moved start new.stop (events new) (state new) (longer start new.stop h.event h.log (by_why h.why))
    where
      by_why : IsSettled old new h.event →
          IsDrivenLog (program old) old.settings start new.stop (events old ++ h.event ∷ []) (state new)
      by_why (settled_next e f next known) =
          subst (λ z. IsDrivenLog (program old) old.settings start z (events old ++ h.event ∷ []) (state new)) (sym f)
          (goes_on (program old) old.settings start None (events old) h.event (state old) (state new) (named start old.stop None e driven)
          h.possible (inr next))
      by_why (settled_stopped reason e f told) =
          subst (λ z. IsDrivenLog (program old) old.settings start z (events old ++ h.event ∷ []) (state new)) (sym f)
          (goes_on (program old) old.settings start (Some reason) (events old) h.event (state old) (state new)
          (named start old.stop (Some reason) e driven) h.possible (inr told))
      by_why (settled_limit e f limit told) =
          subst (λ z. IsDrivenLog (program old) old.settings start z (events old ++ h.event ∷ []) (state new)) (sym f)
          (goes_on (program old) old.settings start (Some (Limit Steps)) (events old) h.event (state old) (state new)
          (stops (program old) old.settings start (events old) (state old) (Limit Steps) (named start old.stop None e driven) limit.at tt)
          h.possible (inr told))

  -- where it settles nothing
  pub quiet : IsQuiet old new → StaysDriven old new
  quiet h start driven = moved start new.stop (events new) (state new) (kept h.log start new.stop (by_why h.why))
    where
      by_why : WhyQuiet old new → IsDrivenLog (program old) old.settings start new.stop (events old) (state old)
      by_why (quiet_stopped reason e f none) = named start old.stop new.stop (e ∙ sym f) driven
      by_why (quiet_undecided e f rules busy undecided) = named start old.stop new.stop (e ∙ sym f) driven
      by_why (quiet_nothing e f rules next known) = named start old.stop new.stop (e ∙ sym f) driven
      by_why (quiet_limit e f limit none) =
          subst (λ z. IsDrivenLog (program old) old.settings start z (events old) (state old)) (sym f)
          (stops (program old) old.settings start (events old) (state old) (Limit Steps) (named start old.stop None e driven) limit tt)

  -- where nothing happens
  pub nothing_happens : SameLog old new → new.stop ≡ old.stop → StaysDriven old new
  nothing_happens log stop start driven =
      moved start new.stop (events new) (state new) (kept log start new.stop (named start old.stop new.stop (sym stop) driven))

  -- a reason that is so stops the session, unless another has
  pub stopped : SameLog old new → StopsNow old new → StaysDriven old new
  stopped log (reason, is_so, asked, stop) start driven =
      moved start new.stop (events new) (state new) (kept log start new.stop (by_stop old.stop stop driven))
    where
      by_stop : (o : Option StopReason) → new.stop ≡ first_reason o reason →
          IsDrivenLog (program old) old.settings start o (events old) (state old) →
          IsDrivenLog (program old) old.settings start new.stop (events old) (state old)
      by_stop None e h =
          subst (λ z. IsDrivenLog (program old) old.settings start z (events old) (state old)) (sym e)
          (stops (program old) old.settings start (events old) (state old) reason h is_so asked)
      by_stop (Some first) e h = named start (Some first) new.stop (sym e) h

  -- what is handed in
  pub handed : HandsIn old new → StaysDriven old new
  handed h = by_stop h.stop
    where
      by_stop : (new.stop ≡ old.stop) ⊎ StopsNow old new → StaysDriven old new
      by_stop (inl same) = nothing_happens h.log same
      by_stop (inr now) = stopped h.log now

  -- where no job is handed out
  pub none_taken : SameLog old new → GiveReasons (program old) old.settings (windows old) (tree old) (pieces old) (state old) →
      WhyNone old new → StaysDriven old new
  none_taken log gives (inl none) = nothing_happens log none.1
  none_taken log gives (inr many) =
      stopped log
      (Limit Offers, gives.offers many.many, (many.looks, asked_at old gives many.job many.verdict (free_is_needed (is_out (map job_of old.out)) (needed_at old) many.job many.first)), many.stop ∙ sym (ap (λ (o : Option StopReason). first_reason o (Limit Offers)) many.running))

pub onward : (a b c : BoardView) → StaysDriven a b → StaysDriven b c → StaysDriven a c
onward a b c f g start h = g start (f start h)
