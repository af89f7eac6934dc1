use Rattle.board_laws.proofs.Keeping.{completeness_stays}
use Rattle.board_laws.proofs.followed.completeness_stays.Goals as goal

pub returns : goal.returns
returns c = completeness_stays
