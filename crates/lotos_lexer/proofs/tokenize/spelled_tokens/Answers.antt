use Rattle.std.proofs.Common.{rules}
use Rattle.lotos_lexer.proofs.Steps.{over_token}
use Rattle.lotos_lexer.proofs.tokenize.spelled_tokens.Goals as goal

pub pieces-preserved : goal.pieces-preserved
pieces-preserved c = record {
  reading = over_token _ _ _ _ _ c.in-Spelling.kind c.in-Spelling.count _ _ _ c.in_ok-token_at-in-Spelling.field-0 _ c.pieces.invariant.reading (search rules) (search rules) (search rules) (search rules) (search rules) (search rules);
  column = search rules;
  bound = search rules;
}
