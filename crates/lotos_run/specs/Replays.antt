-- What comes of the trace of `replay`.
use Rattle.std.specs.Prelude.{ℕ, ◌≡◌, List}
use Rattle.spec_core.specs.Code.{Program}
use Rattle.command_replay.specs.declared.answer.Answer.{Answer}
use Rattle.command_replay.specs.Replays.{Comes}
use Rattle.lotos_run.specs.declared.status.Status.{Status}
use Rattle.lotos_run.specs.ReplayTexts.{status_of, text_of}

-- over this program: what comes of a text that is to be a trace, with its status and its text
pub record IsReplayed (program : Program) (text : List ℕ) (budget : ℕ) (status : Status) (answer : List ℕ) : Type 0 where
  pub came : Answer
  pub comes : Comes program text budget came
  pub due : status ≡ status_of came
  pub reported : answer ≡ text_of program.theory came
