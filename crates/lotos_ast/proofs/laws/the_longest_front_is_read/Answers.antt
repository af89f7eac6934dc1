use Rattle.lotos_ast.proofs.LongestLaws.{longest_is_read}
use Rattle.lotos_ast.proofs.laws.the_longest_front_is_read.Goals as goal

pub returns-clause-read : goal.returns-clause-read
returns-clause-read c = longest_is_read
