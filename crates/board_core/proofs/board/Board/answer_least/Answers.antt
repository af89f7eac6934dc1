use Rattle.std.proofs.Common.{◌∙◌, sym}
use Rattle.board_core.specs.Views.{state}
use Rattle.board_core.proofs.Entries.{least_pending, none_least}
use Rattle.board_core.proofs.board.Board.answer_least.Goals as goal

pub unreachable-requires : goal.unreachable-requires
unreachable-requires c = c.requires.some (none_least (state c.args.self.now).pending (sym c.least.ensures ∙ c.in-None.is))

pub reply-requires-clause-pending : goal.reply-requires-clause-pending
reply-requires-clause-pending c = least_pending (state c.args.self.now) c.in-Some.name (sym c.least.ensures ∙ c.in-Some.is)
