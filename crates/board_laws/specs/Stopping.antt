-- Why a session has stopped. (This profile.)
use Rattle.std.specs.Prelude.{ℕ}
use Rattle.spec_core.specs.Terms.{term_of}
use Rattle.rule_model.specs.Answers.{Answer, spent, too_large, limit}
use Rattle.rule_model.specs.Events.{Ending, ends_spent, ends_too_large, ends_at_limit}
use Rattle.board_laws.specs.declared.stop_reason.StopReason.{StopReason}
use Rattle.board_laws.specs.declared.stop_reason.StopReason.TheVariants.{Spent, TooLarge, Limit}

-- the reply that gives the reason, after so many actions
abbrev pub answer_by : ℕ → StopReason → Answer
answer_by at (Spent term) = spent at (term_of term)
answer_by at (TooLarge term) = too_large at (term_of term)
answer_by at (Limit kind) = limit at kind

-- the end of a session that it has stopped
abbrev pub ending_by : StopReason → Ending
ending_by (Spent term) = ends_spent (term_of term)
ending_by (TooLarge term) = ends_too_large (term_of term)
ending_by (Limit kind) = ends_at_limit kind
