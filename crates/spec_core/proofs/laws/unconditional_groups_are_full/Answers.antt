use Rattle.spec_core.specs.Cover.{empty_one}
use Rattle.spec_core.proofs.laws.unconditional_groups_are_full.Goals as goal

pub returns : goal.returns
returns c = λ theory vars lists h. empty_one h
