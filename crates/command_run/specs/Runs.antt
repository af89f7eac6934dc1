-- What comes of a text that is to be a script (this profile).
use Rattle.std.specs.Prelude.{ℕ, ◌≡◌, List, [], ◌∷◌, length, Option, Some, None}
use Rattle.spec_core.specs.Budgets.{IsBeyond}
use Rattle.spec_core.specs.Code.{Program}
use Rattle.spec_core.specs.Lists.{Each}
use Rattle.spec_core.specs.Terms.{term_of}
use Rattle.run_settings.specs.declared.settings.Settings.{Settings}
use Rattle.rewriter.specs.Answers.{MeetsTooLarge}
use Rattle.rule_model.specs.Events.{Event, Ending, ending_of}
use Rattle.rule_model.specs.Logs.{events_of}
use Rattle.rule_model.specs.Wishes.{Wish}
use Rattle.script_text.specs.Scripts.{SpellsScript, IsScriptFault}
use Rattle.script_text.specs.Wishes.{Wished}
use Rattle.script_offers.specs.Given.{script_given, IsValuedWithin, IsFirstWithout}
use Rattle.script_offers.specs.Valued.{AreScriptValued}
use Rattle.client_laws.specs.Runs.{IsClientRun}
use Rattle.session_laws.specs.Sessions.{IsWholeSession}
use Rattle.session_threads.specs.Runs.{AnswersClients}
use Rattle.command_run.specs.declared.answer.Answer.{Answer}
use Rattle.command_run.specs.declared.answer.Answer.TheVariants as answers

-- the wishes of the one client, which has some, or none where there is no client
abbrev pub wishes_of_one : List (List Wish) → Option (List Wish)
wishes_of_one [] = Some []
wishes_of_one ([] ∷ []) = None
wishes_of_one ((wish ∷ wishes) ∷ []) = Some (wish ∷ wishes)
wishes_of_one (wishes ∷ others ∷ more) = None

module _ (program : Program) (settings : Settings) where
  -- A session of clients that make these offers: it is a whole one, in which the offers of each client are just these, in order, each with
  -- exactly one answer; and that of one client, or of none, is the run of that client.
  pub record IsSessionWith (clients : List (List Wish)) (log : List Event) (ending : Ending) : Type 0 where
    pub whole : IsWholeSession program settings (length clients) log ending
    pub answered : AnswersClients 1 clients log
    pub one : (wishes : List Wish) → wishes_of_one clients ≡ Some wishes → IsClientRun program settings wishes log ending

  -- a session of clients that make these wishes, with the values of their terms; each term has its value within the budget, and meets none
  -- that is too large
  pub record IsSessionOf (clients : List (List Wished)) (log : List Event) (ending : Ending) : Type 0 where
    pub within : Each (IsValuedWithin program.theory settings.budget) (script_given clients)
    pub offers : List (List Wish)
    pub valued : AreScriptValued program.theory clients offers
    pub session : IsSessionWith offers log ending

  -- What comes of what clients wish.
  --   ran: a session of them;
  --   spent, too large: the first of the terms, in order, that has no value within the budget, or meets a value that is too large
  abbrev pub WishesCome : List (List Wished) → Answer → Type 0
  WishesCome clients (answers.Ran log end) = IsSessionOf clients (events_of log) (ending_of end)
  WishesCome clients (answers.Spent t) =
      IsFirstWithout program.theory settings.budget (script_given clients) (term_of t) × IsBeyond program.theory (term_of t) settings.budget
  WishesCome clients (answers.TooLarge t) =
      IsFirstWithout program.theory settings.budget (script_given clients) (term_of t) × MeetsTooLarge program.theory (term_of t)
  WishesCome clients (answers.Refused line kind) = ⊥

  -- what comes of the script that a text spells
  pub record ComesOfScript (text : List ℕ) (answer : Answer) : Type 0 where
    pub clients : List (List Wished)
    pub spelled : SpellsScript program text clients
    pub come : WishesCome clients answer

  -- of a text: what comes of the script that it spells; or why it is no script
  abbrev pub Comes : List ℕ → Answer → Type 0
  Comes text (answers.Ran log end) = ComesOfScript text (answers.Ran log end)
  Comes text (answers.Spent t) = ComesOfScript text (answers.Spent t)
  Comes text (answers.TooLarge t) = ComesOfScript text (answers.TooLarge t)
  Comes text (answers.Refused line kind) = IsScriptFault program text line kind
