use Rattle.std.proofs.Common.{◌≡◌, ◌+◌, drop}
use Rattle.std.specs.List.{prefix_len}
use Rattle.lotos_ast.specs.Bytes.{is_word_byte}
use Rattle.lotos_lexer.proofs.comment.first_word.Given as goal

abbrev pub invariant-loop-byte : goal.invariant-loop-byte
invariant-loop-byte l = (l.count ≡ l.byte-index) × (prefix_len is_word_byte l.text ≡ l.byte-index + prefix_len is_word_byte (drop l.byte-index l.text))
