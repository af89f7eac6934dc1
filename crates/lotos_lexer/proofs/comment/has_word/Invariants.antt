use Rattle.std.proofs.Common.{◌≡◌, false, drop}
use Rattle.std.specs.List.{list_any}
use Rattle.lotos_ast.specs.Marks.{is_same_word}
use Rattle.lotos_ast.specs.Pieces.{words_of}
use Rattle.lotos_lexer.proofs.comment.has_word.Given as goal

abbrev pub invariant-loop-index : goal.invariant-loop-index
invariant-loop-index l = list_any (λ other. is_same_word other l.word) (words_of false l.text) ≡ list_any (λ other. is_same_word other l.word) (words_of l.within (drop l.index l.text))
