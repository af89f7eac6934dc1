use Rattle.board_core.specs.Views.{program}
use Rattle.board_tests.proofs.steps.offers.Goals as goal

pub pend-requires : goal.pend-requires
pend-requires c = record { values = c.offer_at.ensures (program c.args.board.now).theory }
