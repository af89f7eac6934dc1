use Rattle.board_core.specs.Views.{program}
use Rattle.board_tests.proofs.index.begin.Goals as goal

pub pend-requires : goal.pend-requires
pend-requires c = record { values = c.in_ok-offer.ensures (program c.args.board.now).theory }
