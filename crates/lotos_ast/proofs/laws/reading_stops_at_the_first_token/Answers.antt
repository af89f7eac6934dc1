use Rattle.lotos_ast.proofs.GrammarLaws.{fronts_are_viable}
use Rattle.lotos_ast.proofs.laws.reading_stops_at_the_first_token.Goals as goal

pub returns-clause-fronts : goal.returns-clause-fronts
returns-clause-fronts c = fronts_are_viable
