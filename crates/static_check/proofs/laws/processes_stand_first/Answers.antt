use Rattle.static_check.proofs.First.{processes_stand_first}
use Rattle.static_check.proofs.laws.processes_stand_first.Goals as goal

pub returns : goal.returns
returns c = processes_stand_first
