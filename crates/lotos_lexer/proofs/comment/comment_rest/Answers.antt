use Rattle.std.proofs.Common.{rules}
use Rattle.lotos_lexer.proofs.CommentLength.{comment_rest_behind}
use Rattle.lotos_lexer.proofs.comment.comment_rest.Goals as goal

pub loop-index-preserved : goal.loop-index-preserved
loop-index-preserved c = comment_rest_behind c.args.text.now c.loop-index.index (search rules) (search rules) c.loop-index.invariant
