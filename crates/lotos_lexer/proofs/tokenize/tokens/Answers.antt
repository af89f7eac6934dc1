use Rattle.std.proofs.Common.{rules}
use Rattle.lotos_lexer.proofs.Readable.{only_tokens, readable, refused, only_refusal, unreadable}
use Rattle.lotos_lexer.proofs.tokenize.tokens.Goals as goal

pub returns-clause-only : goal.returns-clause-only
returns-clause-only c = only_tokens _ _ c.spelled_tokens.ensures.tokens

pub returns-clause-readable : goal.returns-clause-readable
returns-clause-readable c = readable c.args.text.now _ (search rules) c.spelled_tokens.ensures.tokens

pub returns-clause-refused : goal.returns-clause-refused
returns-clause-refused c = refused c.args.text.now _ (search rules) c.spelled_tokens.ensures.refused

pub returns-clause-only_refusal : goal.returns-clause-only_refusal
returns-clause-only_refusal c = only_refusal _ _ (refused c.args.text.now _ (search rules) c.spelled_tokens.ensures.refused)

pub returns-clause-no_tokens : goal.returns-clause-no_tokens
returns-clause-no_tokens c = unreadable _ _ (refused c.args.text.now _ (search rules) c.spelled_tokens.ensures.refused)
