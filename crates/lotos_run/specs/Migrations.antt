-- What comes of the trace of `migrate`, and what is printed of it.
use Rattle.std.specs.Prelude.{ℕ, ◌≡◌, List, string_bytes}
use Rattle.spec_core.specs.Code.{Program}
use Rattle.command_migrate.specs.declared.answer.Answer.{Answer}
use Rattle.command_migrate.specs.declared.answer.Answer.TheVariants as came
use Rattle.command_migrate.specs.Migrations.{Comes}
use Rattle.lotos_run.specs.declared.status.Status.{Status}
use Rattle.lotos_run.specs.declared.status.Status.TheVariants.{Done, ScriptRefused}
use Rattle.lotos_run.specs.Lines.{script_refusal}

-- the status that is due for what comes of a trace, and the text
abbrev pub status_of : Answer → Status
status_of (came.Migrated trace) = Done
status_of (came.Refused line kind) = ScriptRefused

abbrev pub text_of : Answer → List ℕ
text_of (came.Migrated trace) = string_bytes trace
text_of (came.Refused line kind) = script_refusal line kind

-- over this program: what comes of a text that is to be a trace, with its status and its text
pub record IsMigratedDue (program : Program) (text : List ℕ) (status : Status) (answer : List ℕ) : Type 0 where
  pub came : Answer
  pub comes : Comes program text came
  pub due : status ≡ status_of came
  pub reported : answer ≡ text_of came
