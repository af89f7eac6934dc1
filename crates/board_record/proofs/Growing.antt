-- What one more entry makes of the record of a session.
use Rattle.std.proofs.Common.{ℕ, ◌≡◌, ◌∙◌, sym, ap, subst, List, [], ◌∷◌, ◌++◌, map, Result, Ok, Err, OnErr}
use Rattle.std.proofs.lemmas.List.{map-append}
use Rattle.spec_core.specs.Code.{Program}
use Rattle.spec_core.specs.Ready.{IsReady}
use Rattle.rule_model.specs.declared.log.Entry.{Entry}
use Rattle.rule_model.specs.Behaviours.{Behaviour}
use Rattle.rule_model.specs.Code.{IsStart}
use Rattle.rule_model.specs.Events.{event_of}
use Rattle.rule_model.specs.Legal.{IsPossible, IsDerivation}
use Rattle.rule_model.specs.States.{State, start_state}
use Rattle.board_record.specs.Records.{IsRecord, state_with}
use Rattle.log_states.proofs.Derivations.{further}
use Rattle.log_states.specs.declared.state.SessionState.{SessionState}
use Rattle.log_states.specs.Clients.{numbers_from}
use Rattle.log_states.specs.Views.{state_at}
use Rattle.node_trees.specs.Shapes.{Shape, stands_for}

-- a fact, where an error is answered
pub on_error : {A E P : Type 0} (r : Result A E) → P → OnErr r P
on_error (Ok a) h = tt
on_error (Err e) h = h

module _ (program : Program) where
  -- with a tree that stands for the same the state is the same
  pub one_state : (t v : Shape) (s : SessionState) → stands_for program v ≡ stands_for program t → state_with program v s ≡ state_with program t s
  one_state t v s = ap (λ b. state_at b s)

module _ (program : Program) (clients : ℕ) where
  -- nothing happened yet
  pub begins : (b : Behaviour) (s : State) → IsReady program → IsStart program b → s ≡ start_state b (numbers_from 1 clients) →
      IsRecord program clients [] s
  begins b s ready start e = record { ready = ready; session = record { behaviour = b; start = start; derivation = e } }

  -- the log and the state as other values
  pub stays : (log logs : List Entry) (s u : State) → logs ≡ log → u ≡ s → IsRecord program clients (map event_of log) s →
      IsRecord program clients (map event_of logs) u
  stays log logs s u e f h =
      subst (λ z. IsRecord program clients (map event_of z) u) (sym e) (subst (IsRecord program clients (map event_of log)) (sym f) h)

  -- one more entry
  pub goes_on : (log logs : List Entry) (entry : Entry) (s u : State) → logs ≡ log ++ entry ∷ [] → IsPossible program s (event_of entry) u →
      IsRecord program clients (map event_of log) s → IsRecord program clients (map event_of logs) u
  goes_on log logs entry s u e possible h = record {
    ready = h.ready;
    session = record {
      behaviour = h.session.behaviour;
      start = h.session.start;
      derivation =
          subst (λ z. IsDerivation program z (start_state h.session.behaviour (numbers_from 1 clients)) u)
          (sym (ap (map event_of) e ∙ map-append event_of log (entry ∷ [])))
          (further program (map event_of log) (event_of entry) (start_state h.session.behaviour (numbers_from 1 clients)) s u h.session.derivation possible);
    };
  }
