use Rattle.board_laws.proofs.Living as living
use Rattle.board_core.specs.Views.{program, state, tree, windows, pieces}
use Rattle.board_offers.specs.Waiting.{waiting_in}
use Rattle.board_core.proofs.board.Board.needed_jobs_live.Goals as goal

pub returns : goal.returns
returns c job among =
    let v = c.args.self.now in
    living.needed_jobs_live (program v).theory (windows v) (tree v) (pieces v) (waiting_in (state v)) job among
