-- A log begins in one state, and an entry leads from a state to one state.
use Rattle.std.proofs.Common.{◌≡◌, ◌∙◌, sym, ap, List}
use Rattle.spec_core.specs.Code.{Program}
use Rattle.spec_core.specs.Executable.{IsExecutable}
use Rattle.spec_core.specs.Terms.{variable}
use Rattle.rule_model.specs.Events.{Event, pended, acted, replied, stalled, left}
use Rattle.rule_model.specs.Legal.{IsPossible}
use Rattle.rule_model.specs.States.{State, start_state, after_action}
use Rattle.rule_laws.proofs.Determined.{trees_determine_steps, code_is_one_behaviour}
use Rattle.log_states.specs.Clients.{numbers_from}
use Rattle.log_check.specs.Starting.{BeginsIn, greatest_client}

module _ (program : Program) where
  pub begins_once : (log : List Event) (s t : State) → BeginsIn program log s → BeginsIn program log t → s ≡ t
  begins_once log s t h k =
      let same : h.behaviour ≡ k.behaviour = code_is_one_behaviour program program.start h.behaviour k.behaviour h.start k.start in
      h.state ∙ ap (λ b. start_state b (numbers_from 1 (greatest_client log))) same ∙ sym k.state

  pub possible_once : IsExecutable program.theory → (e : Event) (s t u : State) → IsPossible program s e t → IsPossible program s e u → t ≡ u
  possible_once executable (pended client number offer ask) s t u h k = h.4 ∙ sym k.4
  possible_once executable (acted action d by) s t u h k =
      let same : h.0 ≡ k.0 =
      (trees_determine_steps program executable variable s.behaviour d action action h.0 k.0 h.1 k.1).1 in
      h.3 ∙ ap (λ b. after_action s action by b) same ∙ sym k.3
  possible_once executable (replied client number answer) s t u h k = h.2 ∙ sym k.2
  possible_once executable (stalled names) s t u h k = h.2 ∙ sym k.2
  possible_once executable (left client) s t u h k = h.2 ∙ sym k.2
