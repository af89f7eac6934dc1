-- What `replay` prints.
use Rattle.std.specs.Prelude.{ℕ, List, ◌++◌, codes, decimal}
use Rattle.spec_core.specs.Terms.{term_of}
use Rattle.spec_core.specs.Theories.{Theory}
use Rattle.command_replay.specs.declared.answer.Answer.{Answer}
use Rattle.command_replay.specs.declared.answer.Answer.TheVariants as came
use Rattle.lotos_run.specs.declared.status.Status.{Status}
use Rattle.lotos_run.specs.declared.status.Status.TheVariants.{Done, NotADerivation, Spent, Limit, ScriptRefused}
use Rattle.lotos_run.specs.Lines.{script_refusal, term_line}

-- a number, behind a word
abbrev pub number_line : List ℕ → ℕ → List ℕ
number_line word number = word ++ (decimal number ++ codes "\n")

-- the status that is due for what comes of a trace, and the text
abbrev pub status_of : Answer → Status
status_of (came.Derivation actions) = Done
status_of (came.NotADerivation line) = NotADerivation
status_of (came.Spent t) = Spent
status_of (came.TooLarge t) = Limit
status_of (came.Refused line kind) = ScriptRefused

abbrev pub text_of : Theory → Answer → List ℕ
text_of theory (came.Derivation actions) = number_line (codes "derivation ") actions
text_of theory (came.NotADerivation line) = number_line (codes "not a derivation ") line
text_of theory (came.Spent t) = term_line (codes "spent ") theory (term_of t)
text_of theory (came.TooLarge t) = term_line (codes "large ") theory (term_of t)
text_of theory (came.Refused line kind) = script_refusal line kind
