use Rattle.std.proofs.Common.{◌≡◌, ◌≤◌, drop}
use Rattle.lotos_ast.specs.Pieces.{word_rest}
use Rattle.lotos_lexer.proofs.WordLength.{word_end}
use Rattle.lotos_lexer.proofs.word.word_rest.Given as goal

abbrev pub invariant-loop-byte : goal.invariant-loop-byte
invariant-loop-byte l = record {
  count : l.count ≡ l.byte-index;
  end : l.end ≤ l.count;
  rest : word_rest l.text ≡ word_end l.end l.byte-index (word_rest (drop l.byte-index l.text));
}
