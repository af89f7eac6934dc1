-- Another job is passed by as long as it isn't the one that is looked for.
use Rattle.std.proofs.Common.{◌≡◌, map, false}
use Rattle.candidates.specs.Jobs.{is_out}
use Rattle.candidates.specs.Models.{job_of}
use Rattle.board_core.proofs.board.Board.is_among_needed.Given as goal

abbrev pub invariant-loop : goal.invariant-loop
invariant-loop l = is_out (map job_of l.passed.items) (job_of l.fn.task) ≡ false
