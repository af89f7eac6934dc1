-- That a trace which `run` writes is that of a derivation, over the inference rules alone. (ISO 8807, dynamic semantics; and this
-- profile's logs.)
use Rattle.std.specs.Prelude.{ℕ, ◌≡◌, ◌++◌, List, [], Option, Some, codes, take}
use Rattle.spec_core.specs.Code.{Program}
use Rattle.rule_model.specs.Behaviours.{Behaviour}
use Rattle.rule_model.specs.Code.{IsStart}
use Rattle.rule_model.specs.Events.{Event, Ending}
use Rattle.rule_model.specs.Legal.{IsDerivation}
use Rattle.rule_model.specs.States.{State, start_state}
use Rattle.log_states.specs.Clients.{numbers_from}
use Rattle.trace_text.specs.declared.format.Format.{Format}
use Rattle.trace_text.specs.Formats.{trace_bytes}
use Rattle.trace_text.specs.Names.{names_in}
use Rattle.command_words.specs.Commands.{Command, run}
use Rattle.lotos_front.specs.Answers.{IsAccepted}
use Rattle.lotos_outside.specs.Shelf.{OnFetched}
use Rattle.lotos_run.specs.declared.status.Status.{Status}
use Rattle.lotos_run.specs.Statuses.{IsFinal}

-- From the specification's behaviour on, with so many clients, whose numbers begin with 1, each entry of the log is possible by the
-- inference rules; and the text is the trace of the log in this format, up to its end where the status says that all was written.
pub record IsOfDerivation (program : Program) (format : Format) (status : Status) (text : List ℕ) : Type 0 where
  pub log : List Event
  pub ending : Ending
  pub clients : ℕ
  pub behaviour : Behaviour
  pub start : IsStart program behaviour
  pub last : State
  pub derivation : IsDerivation program log (start_state behaviour (numbers_from 1 clients)) last
  pub behind : List ℕ
  pub spelled : trace_bytes (names_in program) format log ending ≡ text ++ behind
  pub whole : IsFinal status → behind ≡ []

-- the text begins as traces do
abbrev pub BeginsTrace : List ℕ → Type 0
BeginsTrace text = (rest : List ℕ) × (text ≡ codes "lotos-trace " ++ rest)

-- Where `run` wrote a text that begins as traces do, it is that of a derivation of the specification, which is what the text in the file
-- is accepted as, in the format that the words ask for. Said where the shelf and the sink tell what they have.
abbrev pub WritesDerivation : Option (List ℕ → Option (List ℕ)) → Option (List ℕ) → Option (List ℕ) → Status → Option Command → Type 0
WritesDerivation files before after status (Some (run specification script settings workers format)) =
    (held text : List ℕ) → before ≡ Some held → after ≡ Some (held ++ text) → BeginsTrace text →
    OnFetched files specification (λ bytes.
    (program : Program) × IsAccepted (take 4194305 bytes) program × IsOfDerivation program format status text)
WritesDerivation files before after status _ = Unit {0}
