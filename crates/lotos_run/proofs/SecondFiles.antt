-- What comes of a second file that was fetched is due.
use Rattle.std.proofs.Common.{ℕ, ◌≡◌, subst, sym, List, take, inr}
use Rattle.lotos_outside.specs.Shelf.{OnFetched}
use Rattle.lotos_front.specs.Answers.{IsAccepted}
use Rattle.spec_core.specs.Code.{Program}
use Rattle.rule_model.specs.declared.log.End.{End}
use Rattle.rule_model.specs.declared.log.End.TheVariants as ends
use Rattle.command_run.specs.declared.answer.Answer as scripts
use Rattle.command_run.specs.declared.answer.Answer.TheVariants as ran
use Rattle.command_replay.specs.declared.answer.Answer.{Answer}
use Rattle.command_replay.specs.declared.answer.Answer.TheVariants as came
use Rattle.lotos_run.specs.declared.second_file.Second.{Second}
use Rattle.lotos_run.specs.declared.second_file.Second.TheVariants.{Script, Trace, Migration}
use Rattle.lotos_run.specs.declared.status.Status.{Status}
use Rattle.lotos_run.specs.declared.status.Status.TheVariants.{Done, Refused, Usage, ReadFault, WriteFault, Memory, Spent, Limit}
use Rattle.lotos_run.specs.declared.status.Status.TheVariants.{ScriptRefused, NotADerivation}
use Rattle.lotos_run.specs.Checks.{IsReported, OnAccepted}
use Rattle.command_migrate.specs.declared.answer.Answer as migrations
use Rattle.command_migrate.specs.declared.answer.Answer.TheVariants as moved
use Rattle.lotos_run.specs.Migrations as migrated
use Rattle.lotos_run.specs.Outside.{Shelved}
use Rattle.lotos_run.specs.ReplayTexts.{status_of}
use Rattle.lotos_run.specs.RunTexts as runs
use Rattle.lotos_run.specs.SecondFiles.{most, SecondComes, OnSecond, IsDueForSecond, IsDueForText, IsSecondDue}
use Rattle.lotos_run.proofs.Fetched.{fetched_implied}

-- the statuses with which scripts and traces are answered
abbrev pub IsOfSecond : Status → Type 0
IsOfSecond Done = Unit {0}
IsOfSecond NotADerivation = Unit {0}
IsOfSecond Spent = Unit {0}
IsOfSecond Limit = Unit {0}
IsOfSecond ScriptRefused = Unit {0}
IsOfSecond _ = ⊥

of_traces : (a : Answer) → IsOfSecond (status_of a)
of_traces (came.Derivation actions) = tt
of_traces (came.NotADerivation line) = tt
of_traces (came.Spent t) = tt
of_traces (came.TooLarge t) = tt
of_traces (came.Refused line kind) = tt

of_ends : (e : End) → IsOfSecond (runs.status_of_end e)
of_ends ends.Exit = tt
of_ends ends.Deadlock = tt
of_ends ends.Waiting = tt
of_ends ends.Beyond = tt
of_ends (ends.Spent t) = tt
of_ends (ends.TooLarge t) = tt
of_ends (ends.Limit kind) = tt

of_scripts : (a : scripts.Answer) → IsOfSecond (runs.status_of a)
of_scripts (ran.Ran log end) = of_ends end
of_scripts (ran.Spent t) = tt
of_scripts (ran.TooLarge t) = tt
of_scripts (ran.Refused line kind) = tt

of_migrations : (a : migrations.Answer) → IsOfSecond (migrated.status_of a)
of_migrations (moved.Migrated trace) = tt
of_migrations (moved.Refused line kind) = tt

is_of_second : (second : Second) (program : Program) (text : List ℕ) (status : Status) (answer : List ℕ) →
    SecondComes second program text status answer → IsOfSecond status
is_of_second (Script settings workers format) program text status answer h = subst IsOfSecond (sym h.due) (of_scripts h.came)
is_of_second (Trace budget) program text status answer h = subst IsOfSecond (sym h.due) (of_traces h.came)
is_of_second Migration program text status answer h = subst IsOfSecond (sym h.due) (of_migrations h.came)

module _ (shelf : Shelved) (second : Second) (program : Program) (name bytes : List ℕ) (answer : List ℕ)
    (fetched : OnFetched shelf.files name (λ text. bytes ≡ take (most second) text)) where
  of_file : (status : Status) → SecondComes second program bytes status answer → OnSecond shelf second program name status answer
  of_file status h =
      fetched_implied (λ text. bytes ≡ take (most second) text) (λ text. SecondComes second program (take (most second) text) status answer)
      (λ text e. subst (λ b. SecondComes second program b status answer) e h) shelf.files name fetched

  pub second_due : (status : Status) → SecondComes second program bytes status answer → IsDueForSecond shelf second program name status answer
  second_due Done h = of_file Done h
  second_due NotADerivation h = of_file NotADerivation h
  second_due Spent h = of_file Spent h
  second_due Limit h = of_file Limit h
  second_due ScriptRefused h = of_file ScriptRefused h
  second_due Refused h = absurd (is_of_second second program bytes Refused answer h)
  second_due Usage h = absurd (is_of_second second program bytes Usage answer h)
  second_due ReadFault h = absurd (is_of_second second program bytes ReadFault answer h)
  second_due WriteFault h = absurd (is_of_second second program bytes WriteFault answer h)
  second_due Memory h = absurd (is_of_second second program bytes Memory answer h)

module _ (shelf : Shelved) (second : Second) (specification name bytes : List ℕ) (answer : List ℕ)
    (fetched : OnFetched shelf.files specification (λ text. bytes ≡ take 4194305 text)) where
  accepted : (P : Program → Type 0) (program : Program) → IsAccepted bytes program → P program → OnAccepted shelf specification P
  accepted P program h k =
      fetched_implied (λ text. bytes ≡ take 4194305 text) (λ text. (q : Program) × IsAccepted (take 4194305 text) q × P q)
      (λ text e. (program, subst (λ b. IsAccepted b program) e h, k)) shelf.files specification fetched

  pub text_due : (status : Status) → IsDueForText shelf second bytes name status answer →
      IsSecondDue shelf second specification name status answer
  text_due Refused h =
      fetched_implied (λ text. bytes ≡ take 4194305 text) (λ text. IsReported (take 4194305 text) answer)
      (λ text e. subst (λ b. IsReported b answer) e h) shelf.files specification fetched
  text_due Done (program, h, k) = accepted (λ p. OnSecond shelf second p name Done answer) program h k
  text_due NotADerivation (program, h, k) = accepted (λ p. OnSecond shelf second p name NotADerivation answer) program h k
  text_due Spent (program, h, k) = accepted (λ p. OnSecond shelf second p name Spent answer) program h k
  text_due Limit (program, h, k) = accepted (λ p. OnSecond shelf second p name Limit answer) program h k
  text_due ScriptRefused (program, h, k) = accepted (λ p. OnSecond shelf second p name ScriptRefused answer) program h k
  text_due ReadFault (program, h, (same, unread)) = (same, inr (unread, accepted (λ p. Unit {0}) program h tt))
  text_due Usage (program, h, k) = absurd k
  text_due WriteFault (program, h, k) = absurd k
  text_due Memory (program, h, k) = absurd k
