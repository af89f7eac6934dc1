-- Each run is a derivation.
use Rattle.std.proofs.Common.{◌≡◌, sym, subst, List, [], ◌∷◌, ◌++◌, Option, None}
use Rattle.run_settings.specs.declared.settings.Settings.{Settings}
use Rattle.spec_core.specs.Code.{Program}
use Rattle.rule_model.specs.Events.{Event, pended, left}
use Rattle.rule_model.specs.Legal.{IsPossible, IsDerivation}
use Rattle.rule_model.specs.Wishes.{Wish}
use Rattle.rule_model.specs.States.{State}
use Rattle.log_states.proofs.Derivations.{further}
use Rattle.board_laws.specs.declared.stop_reason.StopReason.{StopReason}
use Rattle.client_laws.specs.Laws.{RunsAreDerivations}
use Rattle.client_laws.specs.Runs.{IsRun, run_begins, run_offers, run_leaves, run_goes_on, run_stops, run_tells}

module _ (program : Program) (settings : Settings) (start : State) where
  one_more : (log before : List Event) (event : Event) (m s : State) → log ≡ before ++ event ∷ [] → IsDerivation program before start m →
      IsPossible program m event s → IsDerivation program log start s
  one_more log before event m s e derives possible =
      subst (λ z. IsDerivation program z start s) (sym e) (further program before event start m s derives possible)

  pub derives : (stop : Option StopReason) (wishes : List Wish) (log : List Event) (s : State) →
      IsRun program settings start stop wishes log s → IsDerivation program log start s
  derives stop wishes log s (run_begins a b e f) = subst (λ z. IsDerivation program z start s) (sym e) f
  derives stop wishes log s (run_offers made wish before number m w e run settled possible) =
      one_more log before (pended 1 number wish.offer wish.ask) m s e (derives stop made before m run) possible
  derives stop wishes log s (run_leaves before m e run settled possible) =
      one_more log before (left 1) m s e (derives stop wishes before m run) possible
  derives stop wishes log s (run_goes_on before event m a e run next possible) =
      one_more log before event m s e (derives stop wishes before m run) possible
  derives stop wishes log s (run_stops reason a run is_so asked) = derives None wishes log s run
  derives stop wishes log s (run_tells reason before event m a e run told possible) =
      one_more log before event m s e (derives stop wishes before m run) possible

pub runs_are_derivations : RunsAreDerivations
runs_are_derivations program settings start stop wishes log s run = derives program settings start stop wishes log s run
