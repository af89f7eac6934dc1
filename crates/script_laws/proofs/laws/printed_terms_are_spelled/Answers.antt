use Rattle.script_laws.proofs.Spelled.{printed_is_spelled, spelled_is_printed}
use Rattle.script_laws.proofs.laws.printed_terms_are_spelled.Goals as goal

pub returns-clause-spelled : goal.returns-clause-spelled
returns-clause-spelled c = printed_is_spelled

pub returns-clause-only : goal.returns-clause-only
returns-clause-only c = spelled_is_printed
