-- What is due for a command that reads a second file over a specification. The specification is fetched and judged before it.
use Rattle.std.specs.Prelude.{ℕ, ◌≡◌, ◌≤◌, ◌⊎◌, List, codes, take}
use Rattle.lotos_outside.specs.Shelf.{OnFetched}
use Rattle.lotos_front.specs.Answers.{IsAccepted}
use Rattle.spec_core.specs.Code.{Program}
use Rattle.lotos_run.specs.declared.second_file.Second.{Second}
use Rattle.lotos_run.specs.declared.second_file.Second.TheVariants.{Script, Trace, Migration}
use Rattle.lotos_run.specs.declared.status.Status.{Status}
use Rattle.lotos_run.specs.declared.status.Status.TheVariants.{Done, Refused, ReadFault, Spent, Limit, ScriptRefused, NotADerivation}
use Rattle.lotos_run.specs.Checks.{IsReported, OnAccepted}
use Rattle.lotos_run.specs.Migrations.{IsMigratedDue}
use Rattle.lotos_run.specs.Outside.{Shelved, IsUnread}
use Rattle.lotos_run.specs.Replays.{IsReplayed}
use Rattle.lotos_run.specs.Runs.{IsScripted}

-- how many bytes are fetched: one more than a script, and than a trace, may have
abbrev pub most : Second → ℕ
most (Script settings workers format) = 1048577
most (Trace budget) = 67108865
most Migration = 67108865

-- over this program: what comes of the text of the second file, with its status and its text
abbrev pub SecondComes : Second → Program → List ℕ → Status → List ℕ → Type 0
SecondComes (Script settings workers format) program text status answer = IsScripted program text settings format status answer
SecondComes (Trace budget) program text status answer = IsReplayed program text budget status answer
SecondComes Migration program text status answer = IsMigratedDue program text status answer

-- there are at most 64 workers
abbrev pub HasFewWorkers : Second → Type 0
HasFewWorkers (Script settings workers format) = workers ≤ 64
HasFewWorkers (Trace budget) = Unit {0}
HasFewWorkers Migration = Unit {0}

module _ (shelf : Shelved) (second : Second) where
  -- the file of this name was fetched, and this comes of its first bytes
  abbrev pub OnSecond : Program → List ℕ → Status → List ℕ → Type 0
  OnSecond program name status answer =
      OnFetched shelf.files name (λ bytes. SecondComes second program (take (most second) bytes) status answer)

  -- Once the specification is accepted: what comes of the second file, with one of these statuses; or, read fault, the fetch of that file
  -- failed.
  abbrev pub IsDueForSecond : Program → List ℕ → Status → List ℕ → Type 0
  IsDueForSecond program name Done answer = OnSecond program name Done answer
  IsDueForSecond program name NotADerivation answer = OnSecond program name NotADerivation answer
  IsDueForSecond program name Spent answer = OnSecond program name Spent answer
  IsDueForSecond program name Limit answer = OnSecond program name Limit answer
  IsDueForSecond program name ScriptRefused answer = OnSecond program name ScriptRefused answer
  IsDueForSecond program name ReadFault answer = (answer ≡ codes "read fault\n") × IsUnread shelf name
  IsDueForSecond program name _ answer = ⊥

  -- what is due for the text of a specification: its first refusal, or what is due for the second file where it is accepted
  abbrev pub IsDueForText : List ℕ → List ℕ → Status → List ℕ → Type 0
  IsDueForText text name Refused answer = IsReported text answer
  IsDueForText text name status answer = (program : Program) × IsAccepted text program × IsDueForSecond program name status answer

  -- Which status is due, with which text, and when.
  --   refused: the specification has a first refusal;
  --   read fault: the fetch of the specification failed, or the fetch of the second file behind a specification that is accepted;
  --   done, not a derivation, spent, limit, script refused: the specification is accepted, and this comes of the second file.
  abbrev pub IsSecondDue : List ℕ → List ℕ → Status → List ℕ → Type 0
  IsSecondDue specification name Refused answer =
      OnFetched shelf.files specification (λ bytes. IsReported (take 4194305 bytes) answer)
  IsSecondDue specification name ReadFault answer =
      (answer ≡ codes "read fault\n") ×
      (IsUnread shelf specification ⊎ IsUnread shelf name × OnAccepted shelf specification (λ program. Unit {0}))
  IsSecondDue specification name Done answer = OnAccepted shelf specification (λ program. OnSecond program name Done answer)
  IsSecondDue specification name NotADerivation answer = OnAccepted shelf specification (λ program. OnSecond program name NotADerivation answer)
  IsSecondDue specification name Spent answer = OnAccepted shelf specification (λ program. OnSecond program name Spent answer)
  IsSecondDue specification name Limit answer = OnAccepted shelf specification (λ program. OnSecond program name Limit answer)
  IsSecondDue specification name ScriptRefused answer = OnAccepted shelf specification (λ program. OnSecond program name ScriptRefused answer)
  IsSecondDue specification name _ answer = ⊥
