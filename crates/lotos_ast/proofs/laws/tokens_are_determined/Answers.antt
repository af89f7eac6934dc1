use Rattle.lotos_ast.proofs.Existence.{tokens_or_refusal}
use Rattle.lotos_ast.proofs.laws.tokens_are_determined.Goals as goal

pub returns-clause-some : goal.returns-clause-some
returns-clause-some c = tokens_or_refusal
