use Rattle.std.proofs.Common.{◌≡◌, ◌+◌, drop, option_map}
use Rattle.lotos_ast.specs.Pieces.{comment_rest}
use Rattle.lotos_lexer.proofs.comment.comment_rest.Given as goal

abbrev pub invariant-loop-index : goal.invariant-loop-index
invariant-loop-index l = comment_rest l.text ≡ option_map (λ n. l.index + n) (comment_rest (drop l.index l.text))
