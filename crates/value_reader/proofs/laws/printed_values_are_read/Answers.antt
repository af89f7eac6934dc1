use Rattle.value_reader.proofs.Values.{one_text}
use Rattle.value_reader.proofs.laws.printed_values_are_read.Goals as goal

pub returns-clause-one : goal.returns-clause-one
returns-clause-one c = one_text
