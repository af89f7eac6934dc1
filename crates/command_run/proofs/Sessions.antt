-- Sessions of the clients of a script.
use Rattle.std.proofs.Common.{ℕ, ◌+◌, ◌≡◌, ◌∙◌, refl, sym, ap, subst, List, [], ◌∷◌, map, length, Some, Result, Ok, Err, IfOk, Vec}
use Rattle.std.specs.declared.alloc.Global.{Global}
use Rattle.std.proofs.lemmas.List.{length-map}
use Rattle.spec_core.specs.Lists.{Each}
use Rattle.spec_core.specs.declared.memory.Memory.{Memory}
use Rattle.run_settings.specs.declared.settings.Settings.{Settings}
use Rattle.spec_core.specs.Code.{Program}
use Rattle.spec_core.specs.Theories.{Theory}
use Rattle.spec_core.proofs.Lists.{each_implied}
use Rattle.rule_model.specs.declared.offer.Field.{Field}
use Rattle.rule_model.specs.declared.offer.Field.TheVariants.{Give, Take}
use Rattle.spec_core.specs.Ready.{IsReady}
use Rattle.spec_core.proofs.Members.{contains_none}
use Rattle.rule_model.specs.Answering.{name_of, numbered, AnswersEach}
use Rattle.rule_model.specs.declared.log.Log.{Log}
use Rattle.rule_model.specs.declared.log.End.{End}
use Rattle.rule_model.specs.Events.{Event, Ending, ending_of}
use Rattle.rule_model.specs.Logs.{events_of}
use Rattle.rule_model.specs.Wishes.{Wish}
use Rattle.symbolic_rules.specs.Windows.{Windows}
use Rattle.board_laws.specs.Next.{AreSessionWindows}
use Rattle.rule_model.specs.declared.wish.ClientWish.{ClientWish}
use Rattle.script_offers.specs.Valued.{all_wishes_of}
use Rattle.script_offers.specs.Valued as valued
use Rattle.board_laws.specs.JobValues.{FieldGivesValue, GivesValues}
use Rattle.client_laws.specs.Laws.{ClientRunsAnswerEach}
use Rattle.client_laws.specs.Runs.{IsClientRun}
use Rattle.session_laws.specs.Answers.{names_of, numbered_for, of_client, AnswersClient}
use Rattle.session_laws.specs.Laws.{ClientRunsAreSessions}
use Rattle.session_laws.specs.Sessions.{IsWholeSession}
use Rattle.session_laws.specs.AnswerLaws.{ClientsAloneOffer, SessionsOfOneAreClientRuns}
use Rattle.session_threads.specs.Runs.{AnswersClients}
use Rattle.command_run.specs.Runs.{wishes_of_one, IsSessionWith}

-- what the offers of clients give are values

field_gives : (theory : Theory) (f : Field) → valued.FieldGivesValue theory f → FieldGivesValue theory f
field_gives theory (Give v) h = h
field_gives theory (Take sort) h = tt

pub offers_give : (theory : Theory) (clients : List (List Wish)) → Each (Each (valued.GivesValues theory)) clients →
    Each (Each (λ (w : Wish). GivesValues theory w.offer)) clients
offers_give theory clients =
    each_implied (Each (valued.GivesValues theory)) (Each (λ (w : Wish). GivesValues theory w.offer)) clients
    (λ ws. each_implied (valued.GivesValues theory) (λ (w : Wish). GivesValues theory w.offer) ws
    (λ w. each_implied (valued.FieldGivesValue theory) (FieldGivesValue theory) w.offer.fields (field_gives theory)))

-- the offers of client 1 alone are those of client 1

own_offers : (n : ℕ) (wishes : List Wish) → of_client 1 (numbered n wishes) ≡ numbered_for 1 n wishes
own_offers n [] = refl
own_offers n (wish ∷ wishes) =
    ap (λ ps. record { client = 1; number = n; offer = wish.offer; ask = wish.ask } ∷ ps) (own_offers (n + 1) wishes)

own_names : (n : ℕ) (wishes : List Wish) → names_of 1 (map name_of (numbered n wishes)) ≡ map name_of (numbered_for 1 n wishes)
own_names n [] = refl
own_names n (wish ∷ wishes) = ap (λ names. (1, n) ∷ names) (own_names (n + 1) wishes)

answers_one : (wishes : List Wish) (log : List Event) → AnswersEach wishes log → AnswersClient 1 wishes log
answers_one wishes log h = record {
  offers = ap (of_client 1) h.offers ∙ own_offers 1 wishes;
  answers = ap (names_of 1) h.answers ∙ own_names 1 wishes;
}

module _ (program : Program) (settings : Settings) (log : List Event) (ending : Ending) where
  -- the run of one client, or of none, is a session of it
  pub of_run : ClientRunsAreSessions → ClientRunsAnswerEach → IsReady program → (clients : List (List Wish)) (wishes : List Wish) →
      wishes_of_one clients ≡ Some wishes → IsClientRun program settings wishes log ending →
      IsSessionWith program settings clients log ending
  of_run sessions answers ready [] wishes e run =
      let same : [] ≡ wishes = cc in
      let own = subst (λ ws. IsClientRun program settings ws log ending) (sym same) run in
      record {
        whole = sessions program settings [] log ending own;
        answered = tt;
        one = λ ws f. let is : [] ≡ ws = cc in subst (λ vs. IsClientRun program settings vs log ending) is own;
      }
  of_run sessions answers ready ([] ∷ []) wishes e run = let never : ⊥ = cc in absurd never
  of_run sessions answers ready ((wish ∷ others) ∷ []) wishes e run =
      let same : wish ∷ others ≡ wishes = cc in
      let own = subst (λ ws. IsClientRun program settings ws log ending) (sym same) run in
      record {
        whole = sessions program settings (wish ∷ others) log ending own;
        answered = (answers_one (wish ∷ others) log (answers program settings (wish ∷ others) log ending ready own), tt);
        one = λ ws f. let is : wish ∷ others ≡ ws = cc in subst (λ vs. IsClientRun program settings vs log ending) is own;
      }
  of_run sessions answers ready ([] ∷ second ∷ more) wishes e run = let never : ⊥ = cc in absurd never
  of_run sessions answers ready ((wish ∷ others) ∷ second ∷ more) wishes e run = let never : ⊥ = cc in absurd never

  module _ (alone : ClientsAloneOffer) (one_runs : SessionsOfOneAreClientRuns) (w : Windows) (windows : AreSessionWindows program settings w) where
    is_run : (clients : List (List Wish)) → IsWholeSession program settings (length clients) log ending → AnswersClients 1 clients log →
        (wishes : List Wish) → wishes_of_one clients ≡ Some wishes → IsClientRun program settings wishes log ending
    is_run [] whole answered wishes e =
        let same : [] ≡ wishes = cc in
        subst (λ ws. IsClientRun program settings ws log ending) same
        (one_runs program settings w windows [] log ending whole (alone program settings 0 log ending whole 1 (contains_none 1)))
    is_run ([] ∷ []) whole answered wishes e = let never : ⊥ = cc in absurd never
    is_run ((wish ∷ others) ∷ []) whole answered wishes e =
        let same : wish ∷ others ≡ wishes = cc in
        subst (λ ws. IsClientRun program settings ws log ending) same
        (one_runs program settings w windows (wish ∷ others) log ending whole answered.0.offers)
    is_run ([] ∷ second ∷ more) whole answered wishes e = let never : ⊥ = cc in absurd never
    is_run ((wish ∷ others) ∷ second ∷ more) whole answered wishes e = let never : ⊥ = cc in absurd never

    -- a whole session that answers each client is a session of them
    pub of_threads : (clients : List (List Wish)) → IsWholeSession program settings (length clients) log ending → AnswersClients 1 clients log →
        IsSessionWith program settings clients log ending
    of_threads clients whole answered = record { whole = whole; answered = answered; one = is_run clients whole answered }

-- where there is one client alone, what holds of each client's wishes holds of its wishes
pub each_of_one : (P : Wish → Type 0) (clients : List (List Wish)) (wishes : List Wish) → wishes_of_one clients ≡ Some wishes →
    Each (Each P) clients → Each P wishes
each_of_one P [] wishes e h = let same : [] ≡ wishes = cc in subst (Each P) same tt
each_of_one P ([] ∷ []) wishes e h = let never : ⊥ = cc in absurd never
each_of_one P ((wish ∷ others) ∷ []) wishes e h = let same : wish ∷ others ≡ wishes = cc in subst (Each P) same h.0
each_of_one P ([] ∷ second ∷ more) wishes e h = let never : ⊥ = cc in absurd never
each_of_one P ((wish ∷ others) ∷ second ∷ more) wishes e h = let never : ⊥ = cc in absurd never

-- the same of answers, over an equal copy of the specification

module _ (own program : Program) (same : own ≡ program) (settings : Settings) where
  pub run_answers : ClientRunsAreSessions → ClientRunsAnswerEach → IsReady program → (clients : List (List Wish)) (wishes : List Wish) →
      wishes_of_one clients ≡ Some wishes → (result : Result (Log × End) Memory) →
      IfOk result (λ r. IsClientRun own settings wishes (events_of r.0) (ending_of r.1)) →
      IfOk result (λ r. IsSessionWith program settings clients (events_of r.0) (ending_of r.1))
  run_answers sessions answers ready clients wishes e (Ok r) h =
      of_run program settings (events_of r.0) (ending_of r.1) sessions answers ready clients wishes e
      (subst (λ p. IsClientRun p settings wishes (events_of r.0) (ending_of r.1)) same h)
  run_answers sessions answers ready clients wishes e (Err fault) h = tt

  pub threads_answer : ClientsAloneOffer → SessionsOfOneAreClientRuns → (clients : List (Vec ClientWish Global)) →
      (result : Result (Log × End) Memory) →
      IfOk result (λ r. IsWholeSession own settings (length clients) (events_of r.0) (ending_of r.1)) →
      IfOk result (λ r. AnswersClients 1 (map all_wishes_of clients) (events_of r.0)) →
      IfOk result (λ r. (w : Windows) × AreSessionWindows own settings w) →
      IfOk result (λ r. IsSessionWith program settings (map all_wishes_of clients) (events_of r.0) (ending_of r.1))
  threads_answer alone one_runs clients (Ok r) whole answered windows =
      of_threads program settings (events_of r.0) (ending_of r.1) alone one_runs windows.0
      (subst (λ p. AreSessionWindows p settings windows.0) same windows.1)
      (map all_wishes_of clients)
      (subst (λ n. IsWholeSession program settings n (events_of r.0) (ending_of r.1)) (sym (length-map clients all_wishes_of))
      (subst (λ p. IsWholeSession p settings (length clients) (events_of r.0) (ending_of r.1)) same whole))
      answered
  threads_answer alone one_runs clients (Err fault) whole answered windows = tt
