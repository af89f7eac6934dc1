-- The texts of sessions. (This profile.)
use Rattle.std.specs.Prelude.{ℕ, ◌≡◌, List}
use Rattle.spec_core.specs.Budgets.{IsBeyond}
use Rattle.spec_core.specs.Code.{Program}
use Rattle.spec_core.specs.Terms.{term_of}
use Rattle.rewriter.specs.Answers.{MeetsTooLarge}
use Rattle.rule_model.specs.Events.{Event, Ending}
use Rattle.trace_text.specs.declared.format.Format.{Format}
use Rattle.trace_text.specs.Formats.{trace_bytes}
use Rattle.trace_text.specs.Names.{names_in}
use Rattle.log_check.specs.Checked.{IsDerivationOf, LogAsks}
use Rattle.command_replay.specs.declared.answer.Answer.{Answer}
use Rattle.command_replay.specs.declared.answer.Answer.TheVariants as answers

-- the text is that of the log and its end, as a trace in a format
abbrev pub IsTextOf : Program → Format → List Event → Ending → List ℕ → Type 0
IsTextOf program format log ending text = text ≡ trace_bytes (names_in program) format log ending

-- what is told of a log: that it is a derivation with so many actions; or a term that it asks is too dear, or too large
abbrev pub TellsDerivation : Program → List Event → ℕ → Answer → Type 0
TellsDerivation program log budget (answers.Derivation actions) = IsDerivationOf program log actions
TellsDerivation program log budget (answers.Spent x) = LogAsks program log (term_of x) × IsBeyond program.theory (term_of x) budget
TellsDerivation program log budget (answers.TooLarge x) = LogAsks program log (term_of x) × MeetsTooLarge program.theory (term_of x)
TellsDerivation program log budget (answers.NotADerivation line) = ⊥
TellsDerivation program log budget (answers.Refused line kind) = ⊥
