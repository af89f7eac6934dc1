-- What `replay` tells of the text of a session.
use Rattle.std.proofs.Common.{ℕ, zero, suc, ◌+◌, ◌≡◌, ◌<◌, ◌≤◌, ◌^◌, ◌∙◌, refl, sym, ap, subst, List, [], ◌∷◌, ◌++◌, append_assoc, arith}
use Rattle.std.proofs.Common.{codes, length}
use Rattle.std.proofs.Common.{Contains, max, nat_eq, not, eqb-true}
use Rattle.std.proofs.Math.Nat.{le-max_left, le-max_right, max-le}
use Rattle.lotos_ast.specs.declared.text_kind.TextKind.{TextKind}
use Rattle.spec_core.specs.Code.{Program}
use Rattle.spec_core.specs.Lists.{Each}
use Rattle.spec_core.specs.Ready.{IsReady}
use Rattle.spec_core.specs.Terms.{term_of}
use Rattle.run_settings.specs.declared.settings.Settings.{Settings}
use Rattle.spec_core.proofs.Members.{contains_first, contains_later, contains_none, contains_one, one_contained, one_filter}
use Rattle.log_states.specs.Clients.{numbers_from}
use Rattle.log_states.proofs.Tests.{by_cases}
use Rattle.log_check.specs.Checked.{EndsAt, IsDerivationOf, LogAsks}
use Rattle.log_check.specs.Starting.{greatest_client, greatest_in}
use Rattle.log_check.proofs.OneAnswer.{logs_have_one_answer}
use Rattle.rule_model.specs.Events.{Event, Ending, acted, left, pended, replied, stalled}
use Rattle.rule_model.specs.Legal.{IsDerivation, IsPossible}
use Rattle.rule_model.specs.States.{State, start_state}
use Rattle.rule_sorts.specs.Fitting.{HasFewGates}
use Rattle.script_text.specs.Scripts.{WishFits}
use Rattle.script_text.specs.Wishes.{Wished}
use Rattle.session_laws.specs.Sessions.{IsLegal, IsWholeSession}
use Rattle.command_run.specs.Runs.{IsSessionOf}
use Rattle.script_text.proofs.OneScript.{script_few, script_fits}
use Rattle.trace_text.specs.declared.format.Format.{Format}
use Rattle.trace_text.specs.declared.format.Format.TheVariants.{One, Two}
use Rattle.trace_text.specs.Fits.{HasTrace}
use Rattle.trace_text.specs.Laws.{IsShort}
use Rattle.trace_text.proofs.OneFormat.{one_trace}
use Rattle.trace_reader.specs.Lines.{lines_text}
use Rattle.trace_reader.specs.Traces.{IsBadBehind, IsLineFault, bad_form, bad_line, ends_early, too_long, trace_limit}
use Rattle.command_replay.specs.Replays as replays
use Rattle.command_replay.specs.declared.answer.Answer.{Answer}
use Rattle.command_replay.specs.declared.answer.Answer.TheVariants.{Derivation, NotADerivation, Refused, Spent, TooLarge}
use Rattle.session_traces.specs.Laws.{SessionsAreReplayed, TracesAreOfOneSession}
use Rattle.session_traces.specs.Texts.{IsTextOf, TellsDerivation}
use Rattle.session_traces.proofs.Few.{script_short}
use Rattle.session_traces.proofs.Sessions.{all_among, begins, count, derivation, has_trace, legal, whole}

-- the greatest client that a log names is the last one

at_most : (n : ℕ) (log : List Event) → Each (λ (e : Event). greatest_in e ≤ n) log → greatest_client log ≤ n
at_most n [] h = omega arith
at_most n (event ∷ log) h = max-le h.0 (at_most n log h.1)

module _ (program : Program) where
  -- a client that is open first, and none is last, leaves
  named : (log : List Event) (s t : State) → IsDerivation program log s t → t.open_clients ≡ [] → (c : ℕ) → Contains s.open_clients c →
      c ≤ greatest_client log
  named [] s t d closed c m =
      absurd (contains_none c (subst (λ (cs : List ℕ). Contains cs c) (ap (λ (z : State). z.open_clients) (sym d) ∙ closed) m))
  named (event ∷ log) s t (next, possible, d) closed c m = by_event event possible (named log next t d closed c)
    where
      later : (e : Event) → c ≤ greatest_client log → c ≤ max (greatest_in e) (greatest_client log)
      later e low = let up = le-max_right (greatest_in e) (greatest_client log) in omega (arith, low, up)

      stays : (z : State) → next ≡ z → Contains z.open_clients c → Contains next.open_clients c
      stays z e k = subst (λ (y : State). Contains y.open_clients c) (sym e) k

      by_event : (e : Event) → IsPossible program s e next → (Contains next.open_clients c → c ≤ greatest_client log) →
          c ≤ max (greatest_in e) (greatest_client log)
      by_event (pended client number offer ask) p rest = later (pended client number offer ask) (rest (stays _ p.4 m))
      by_event (acted action tree by) p rest = later (acted action tree by) (rest (stays _ p.3 m))
      by_event (replied client number answer) p rest = later (replied client number answer) (rest (stays _ p.2 m))
      by_event (stalled names) p rest = later (stalled names) (rest (stays _ p.2 m))
      by_event (left client) p rest =
          by_cases (nat_eq c client)
          (λ e.
          let same = eqb-true c client e in
          let up = le-max_left client (greatest_client log) in
          omega (arith, same, up))
          (λ e.
          later (left client)
          (rest
          (stays _ p.2
          (contains_one c _
          (one_filter (λ (other : ℕ). not (nat_eq other client)) c s.open_clients (one_contained c s.open_clients m) (ap not e))))))

numbers_end : (n first : ℕ) → Contains (numbers_from first (suc n)) (first + n)
numbers_end zero first = subst (Contains (first ∷ [])) (omega arith) (contains_first first [])
numbers_end (suc n) first =
    subst (Contains (numbers_from first (suc (suc n)))) (omega arith)
    (contains_later first (first + 1 + n) (numbers_from (first + 1) (suc n)) (numbers_end n (first + 1)))

last_number : (count : ℕ) → Contains (numbers_from 1 (suc count)) (suc count)
last_number count = subst (Contains (numbers_from 1 (suc count))) (omega arith) (numbers_end count 1)

up_to_last : (n g : ℕ) → ((c : ℕ) → Contains (numbers_from 1 n) c → c ≤ g) → n ≤ g
up_to_last zero g h = omega arith
up_to_last (suc k) g h = h (suc k) (last_number k)

equal : (a b : ℕ) → a ≤ b → b ≤ a → a ≡ b
equal a b h k = omega (arith, h, k)

-- a text that `replay` reads has few bytes
few_bytes : (format : Format) (text : List ℕ) → length text ≤ trace_limit → IsShort format text
few_bytes One text h = tt
few_bytes Two text h = omega (arith, h)

module _ (program : Program) (settings : Settings) (ready : IsReady program) (few : HasFewGates program) (clients : List (List Wished))
    (log : List Event) (ending : Ending) (at_most_64 : length clients ≤ 64)
    (short : Each (λ (wishes : List Wished). length wishes < 2 ^ 64) clients) (fit : Each (Each (WishFits program)) clients)
    (session : IsSessionOf program settings clients log ending) where
  abbrev many : ℕ
  many = count program settings ready few clients log ending at_most_64 short fit session

  abbrev first : State
  first = begins program settings ready few clients log ending at_most_64 short fit session

  abbrev all : IsWholeSession program settings many log ending
  all = whole program settings ready few clients log ending at_most_64 short fit session

  leads : IsDerivation program log first all.last
  leads = derivation program settings ready few clients log ending at_most_64 short fit session

  same_greatest : many ≡ greatest_client log
  same_greatest =
      equal many (greatest_client log)
      (up_to_last many (greatest_client log) (named program log first all.last leads all.closed))
      (at_most many log (all_among program settings ready few clients log ending at_most_64 short fit session))

  abbrev own : IsLegal program settings many all.stop log all.last
  own = legal program settings ready few clients log ending at_most_64 short fit session

  derived : IsDerivationOf program log all.last.actions
  derived = record {
    last = all.last;
    leads = record {
      first = first;
      begins = record {
        behaviour = own.behaviour;
        start = own.start;
        state = ap (λ (n : ℕ). start_state own.behaviour (numbers_from 1 n)) same_greatest;
      };
      derivation = leads;
    };
    counted = refl;
  }

  has : HasTrace program log ending
  has = has_trace program settings ready few clients log ending at_most_64 short fit session

  module _ (text : List ℕ) (format : Format) (spelled : IsTextOf program format log ending text) where
    pub one : IsShort format text → (form : Format) (other : List Event) (another : Ending) → HasTrace program other another →
        IsTextOf program form other another text → (form ≡ format) × (other ≡ log) × (another ≡ ending)
    one short form other another h e =
        let same =
        one_trace program ready.executable.fits ready.named format form log other ending another has h
        (subst (IsShort format) spelled short) (sym spelled ∙ e) in
        (sym same.0, sym same.1, sym same.2)

    module _ (fits : length text ≤ trace_limit) where
      never_bad : (before after : List ℕ) → text ≡ before ++ after → IsBadBehind program text before after → ⊥
      never_bad before after e (bad_line line rest f single never) =
          never
          (record {
            format = format;
            log = log;
            ending = ending;
            behind = rest;
            has = has;
            begins =
                sym spelled ∙ e ∙ ap (λ (z : List ℕ). before ++ z) f ∙ ap (λ (z : List ℕ). before ++ z)
                (sym (append_assoc line (codes "\n") rest))
                ∙ sym (append_assoc before (line ++ codes "\n") rest);
          })
      never_bad before after e (ends_early single never) = never format log ending (record { has = has; spelled = spelled; short = fits })

      never_faulty : (number : ℕ) (kind : TextKind) → IsLineFault program text number kind → ⊥
      never_faulty number kind (too_long h e f) = omega (arith, h, fits)
      never_faulty number kind (bad_form h e f) = never_bad (lines_text f.before) f.after f.parts f.bad

      same_log : (form : Format) (other : List Event) (another : Ending) → HasTrace program other another →
          IsTextOf program form other another text → other ≡ log
      same_log form other another h e = (one (few_bytes format text fits) form other another h e).1

      pub told : (budget : ℕ) (answer : Answer) → replays.Comes program text budget answer → TellsDerivation program log budget answer
      told budget (Derivation actions) h =
          let same = same_log h.format h.log h.ending h.trace.has h.trace.spelled in
          subst (λ (l : List Event). IsDerivationOf program l actions) same h.comes.0
      told budget (Spent x) h =
          let same = same_log h.format h.log h.ending h.trace.has h.trace.spelled in
          (subst (λ (l : List Event). LogAsks program l (term_of x)) same h.comes.0, h.comes.1)
      told budget (TooLarge x) h =
          let same = same_log h.format h.log h.ending h.trace.has h.trace.spelled in
          (subst (λ (l : List Event). LogAsks program l (term_of x)) same h.comes.0, h.comes.1)
      told budget (NotADerivation line) h =
          let same = same_log h.format h.log h.ending h.trace.has h.trace.spelled in
          (logs_have_one_answer program ready log).derived all.last.actions h.comes.0.0 derived
          (subst (λ (l : List Event). EndsAt program l h.comes.0.0) same h.comes.0.1)
      told budget (Refused line kind) h = never_faulty line kind h

pub traces_are_of_one_session : TracesAreOfOneSession
traces_are_of_one_session program settings script log end ready few h text format form spelled short other another =
    one program settings ready few h.clients _ _ (script_few program script h.clients h.spelled)
    (script_short program script h.clients h.spelled) (script_fits program script h.clients h.spelled) h.come text format spelled short form
    other another

pub sessions_are_replayed : SessionsAreReplayed
sessions_are_replayed program settings script log end ready few h text format spelled fits =
    told program settings ready few h.clients _ _ (script_few program script h.clients h.spelled)
    (script_short program script h.clients h.spelled) (script_fits program script h.clients h.spelled) h.come text format spelled fits
