-- What comes of the script of `run`.
use Rattle.std.specs.Prelude.{ℕ, ◌≡◌, List}
use Rattle.run_settings.specs.declared.settings.Settings.{Settings}
use Rattle.spec_core.specs.Code.{Program}
use Rattle.command_run.specs.declared.answer.Answer.{Answer}
use Rattle.trace_text.specs.declared.format.Format.{Format}
use Rattle.command_run.specs.Runs.{Comes}
use Rattle.lotos_run.specs.declared.run_text.SessionText.TheVariants.{Trace}
use Rattle.lotos_run.specs.declared.status.Status.{Status}
use Rattle.lotos_run.specs.RunTexts.{status_of, text_of}

-- over this program: what comes of a text that is to be a script, with its status and its text, where a trace is printed in this format
pub record IsScripted (program : Program) (text : List ℕ) (settings : Settings) (format : Format) (status : Status) (answer : List ℕ) : Type 0 where
  pub came : Answer
  pub comes : Comes program settings text came
  pub due : status ≡ status_of came
  pub reported : answer ≡ text_of (Trace format) program came
