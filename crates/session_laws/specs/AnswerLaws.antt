-- What follows from the definitions.
use Rattle.std.specs.Prelude.{ℕ, ◌≡◌, Contains, List, []}
use Rattle.run_settings.specs.declared.settings.Settings.{Settings}
use Rattle.spec_core.specs.Code.{Program}
use Rattle.rule_model.specs.Events.{Event, Ending}
use Rattle.rule_model.specs.Wishes.{Wish}
use Rattle.symbolic_rules.specs.Windows.{Windows}
use Rattle.board_laws.specs.Next.{AreSessionWindows}
use Rattle.client_laws.specs.Runs.{IsClientRun, clients_for}
use Rattle.log_states.specs.Clients.{numbers_from}
use Rattle.session_laws.specs.Answers.{AnswersClient, numbered_for, offers_by}
use Rattle.session_laws.specs.Sessions.{IsWholeSession}
use Rattle.session_laws.specs.Wishes.{wishes_by}

-- In a whole session the offers of each client are what it wishes, numbered from 1 on, in order, each with exactly one answer.
abbrev pub WholeSessionsAnswerClients : Type 0
WholeSessionsAnswerClients =
    (program : Program) (settings : Settings) (clients : ℕ) (log : List Event) (ending : Ending) →
    IsWholeSession program settings clients log ending →
    (client : ℕ) →
    AnswersClient client (wishes_by client log) log

-- A whole session of one client that makes just these wishes, in order, or of none, is the run of that client. The sorts of the
-- specification have windows.
abbrev pub SessionsOfOneAreClientRuns : Type 0
SessionsOfOneAreClientRuns =
    (program : Program) (settings : Settings) (w : Windows) →
    AreSessionWindows program settings w →
    (wishes : List Wish) (log : List Event) (ending : Ending) →
    IsWholeSession program settings (clients_for wishes) log ending →
    offers_by 1 log ≡ numbered_for 1 1 wishes →
    IsClientRun program settings wishes log ending

-- In a whole session nobody but its clients makes an offer.
abbrev pub ClientsAloneOffer : Type 0
ClientsAloneOffer =
    (program : Program) (settings : Settings) (clients : ℕ) (log : List Event) (ending : Ending) →
    IsWholeSession program settings clients log ending →
    (client : ℕ) →
    (Contains (numbers_from 1 clients) client → ⊥) →
    offers_by client log ≡ []
