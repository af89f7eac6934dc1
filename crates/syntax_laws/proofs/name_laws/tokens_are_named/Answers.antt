use Rattle.syntax_laws.proofs.Tokens.{tokens_are_named}
use Rattle.syntax_laws.proofs.name_laws.tokens_are_named.Goals as goal

pub returns : goal.returns
returns c = tokens_are_named
