-- What `equal` prints.
use Rattle.std.specs.Prelude.{ℕ, List, codes}
use Rattle.spec_core.specs.Terms.{term_of}
use Rattle.spec_core.specs.Theories.{Theory}
use Rattle.command_equal.specs.declared.answer.Answer.{Answer}
use Rattle.command_equal.specs.declared.answer.Answer.TheVariants as came
use Rattle.lotos_run.specs.declared.status.Status.{Status}
use Rattle.lotos_run.specs.declared.status.Status.TheVariants.{Done, Spent, Limit, ScriptRefused}
use Rattle.lotos_run.specs.Lines.{script_refusal, term_line}

-- the status that is due for what comes of two terms, and the text
abbrev pub status_of : Answer → Status
status_of came.Equal = Done
status_of came.Unequal = Done
status_of (came.Spent t) = Spent
status_of (came.TooLarge t) = Limit
status_of (came.Refused line kind) = ScriptRefused

abbrev pub text_of : Theory → Answer → List ℕ
text_of theory came.Equal = codes "true\n"
text_of theory came.Unequal = codes "false\n"
text_of theory (came.Spent t) = term_line (codes "spent ") theory (term_of t)
text_of theory (came.TooLarge t) = term_line (codes "large ") theory (term_of t)
text_of theory (came.Refused line kind) = script_refusal line kind
