-- What is due for `selfrun`.
use Rattle.std.specs.Prelude.{ℕ, ◌≡◌, List}
use Rattle.spec_core.specs.Code.{program_of}
use Rattle.command_selfrun.specs.declared.answer.Answer.{Answer}
use Rattle.command_selfrun.specs.declared.answer.Answer.TheVariants as came
use Rattle.command_selfrun.specs.Runs.{Comes}
use Rattle.lotos_run.specs.declared.run_text.SessionText.TheVariants.{Counts}
use Rattle.lotos_run.specs.declared.status.Status.{Status}
use Rattle.lotos_run.specs.declared.status.Status.TheVariants.{Refused}
use Rattle.lotos_run.specs.CheckTexts.{refusal_text}
use Rattle.lotos_run.specs.RunTexts as runs

-- the status that is due for what comes of generated texts, and the text
abbrev pub status_of : Answer → Status
status_of (came.Accepted checked scripted) = runs.status_of scripted
status_of (came.Refused refusal) = Refused

abbrev pub text_of : Answer → List ℕ
text_of (came.Accepted checked scripted) = runs.text_of Counts (program_of checked) scripted
text_of (came.Refused refusal) = refusal_text refusal

-- which status is due, with which text: what comes of the texts of a seed and a size
pub record IsSelfrunDue (seed size : ℕ) (status : Status) (answer : List ℕ) : Type 0 where
  pub answered : Answer
  pub comes : Comes seed size answered
  pub due : status ≡ status_of answered
  pub reported : answer ≡ text_of answered
