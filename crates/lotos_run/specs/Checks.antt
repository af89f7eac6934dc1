-- What is due for `check`.
use Rattle.std.specs.Prelude.{ℕ, ◌≡◌, List, codes, take}
use Rattle.lotos_ast.specs.declared.refusal.Refusal.{Refusal}
use Rattle.lotos_outside.specs.Shelf.{OnFetched}
use Rattle.lotos_front.specs.Answers.{IsAccepted, IsFirstRefusal}
use Rattle.spec_core.specs.Code.{Program}
use Rattle.lotos_run.specs.declared.status.Status.{Status}
use Rattle.lotos_run.specs.declared.status.Status.TheVariants.{Done, Refused, ReadFault}
use Rattle.lotos_run.specs.CheckTexts.{accepted_text, refusal_text}
use Rattle.lotos_run.specs.Outside.{Shelved, IsUnread}

-- the text is accepted, and this is what it has
pub record IsCounted (text : List ℕ) (answer : List ℕ) : Type 0 where
  pub program : Program
  pub accepted : IsAccepted text program
  pub counts : answer ≡ accepted_text program

-- the text is refused, and this is its first refusal
pub record IsReported (text : List ℕ) (answer : List ℕ) : Type 0 where
  pub refusal : Refusal
  pub first : IsFirstRefusal text refusal
  pub reported : answer ≡ refusal_text refusal

-- what is due for a text: its counts where it is accepted, and else its first refusal
abbrev pub IsJudged : List ℕ → Status → List ℕ → Type 0
IsJudged text Done answer = IsCounted text answer
IsJudged text Refused answer = IsReported text answer
IsJudged text _ answer = ⊥

-- the file was fetched, its first 4,194,305 bytes, one more than a text may have, are accepted with a program, and the fact holds of the program
abbrev pub OnAccepted : Shelved → List ℕ → (Program → Type 0) → Type 0
OnAccepted shelf specification P =
    OnFetched shelf.files specification (λ bytes. (program : Program) × IsAccepted (take 4194305 bytes) program × P program)

-- Which status is due, with which text, and when. Of the file the first 4,194,305 bytes are judged, one more than a text may have.
--   done: the text is accepted;
--   refused: it has a first refusal;
--   read fault: the fetch of the file failed.
abbrev pub IsCheckDue : Shelved → List ℕ → Status → List ℕ → Type 0
IsCheckDue shelf specification Done text = OnFetched shelf.files specification (λ bytes. IsCounted (take 4194305 bytes) text)
IsCheckDue shelf specification Refused text = OnFetched shelf.files specification (λ bytes. IsReported (take 4194305 bytes) text)
IsCheckDue shelf specification ReadFault text = (text ≡ codes "read fault\n") × IsUnread shelf specification
IsCheckDue shelf specification _ text = ⊥
