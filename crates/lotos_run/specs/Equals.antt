-- What is due for `equal`.
use Rattle.std.specs.Prelude.{ℕ, ◌≡◌, List, codes, take}
use Rattle.lotos_outside.specs.Shelf.{OnFetched}
use Rattle.lotos_front.specs.Answers.{IsAccepted}
use Rattle.spec_core.specs.Code.{Program}
use Rattle.spec_core.specs.Theories.{Theory}
use Rattle.command_equal.specs.declared.answer.Answer.{Answer}
use Rattle.command_equal.specs.Comparisons.{Comes}
use Rattle.lotos_run.specs.declared.status.Status.{Status}
use Rattle.lotos_run.specs.declared.status.Status.TheVariants.{Done, Refused, ReadFault, Spent, Limit, ScriptRefused}
use Rattle.lotos_run.specs.Checks.{IsReported}
use Rattle.lotos_run.specs.EqualTexts.{status_of, text_of}
use Rattle.lotos_run.specs.Outside.{Shelved, IsUnread}

-- over these data: what comes of the two terms, with its status and its text
pub record IsCompared (theory : Theory) (first second : List ℕ) (budget : ℕ) (status : Status) (answer : List ℕ) : Type 0 where
  pub came : Answer
  pub comes : Comes theory first second budget came
  pub due : status ≡ status_of came
  pub reported : answer ≡ text_of theory came

-- what is due for a text: its first refusal, or what comes of the terms over its data where it is accepted
abbrev pub IsComparedIn : List ℕ → List ℕ → List ℕ → ℕ → Status → List ℕ → Type 0
IsComparedIn text first second budget Refused answer = IsReported text answer
IsComparedIn text first second budget status answer =
    (program : Program) × IsAccepted text program × IsCompared program.theory first second budget status answer

-- Which status is due, with which text, and when. Of the file the first 4,194,305 bytes are judged, as by `check`.
--   done: the text is accepted, and the terms are equal, or not;
--   refused: it has a first refusal;
--   spent, limit: one of the terms has no value within the budget, or meets a value that is too large;
--   script refused: they are no terms of one sort;
--   read fault: the fetch of the file failed.
abbrev pub IsEqualDue : Shelved → List ℕ → List ℕ → List ℕ → ℕ → Status → List ℕ → Type 0
IsEqualDue shelf specification first second budget Done text =
    OnFetched shelf.files specification (λ bytes. IsComparedIn (take 4194305 bytes) first second budget Done text)
IsEqualDue shelf specification first second budget Refused text =
    OnFetched shelf.files specification (λ bytes. IsComparedIn (take 4194305 bytes) first second budget Refused text)
IsEqualDue shelf specification first second budget Spent text =
    OnFetched shelf.files specification (λ bytes. IsComparedIn (take 4194305 bytes) first second budget Spent text)
IsEqualDue shelf specification first second budget Limit text =
    OnFetched shelf.files specification (λ bytes. IsComparedIn (take 4194305 bytes) first second budget Limit text)
IsEqualDue shelf specification first second budget ScriptRefused text =
    OnFetched shelf.files specification (λ bytes. IsComparedIn (take 4194305 bytes) first second budget ScriptRefused text)
IsEqualDue shelf specification first second budget ReadFault text = (text ≡ codes "read fault\n") × IsUnread shelf specification
IsEqualDue shelf specification first second budget _ text = ⊥
