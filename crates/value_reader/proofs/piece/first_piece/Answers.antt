use Rattle.std.proofs.Common.{rules, ◌∙◌, ap, arith, length, take, drop, ◌-◌, ◌∷◌}
use Rattle.value_reader.specs.Items.{Piece, pieces}
use Rattle.value_reader.proofs.Words.{word_first, mark_first}
use Rattle.value_reader.proofs.piece.first_piece.Goals as goal

pub returns-then-length-gt0 : goal.returns-then-length-gt0
returns-then-length-gt0 c =
    word_first c.args.text.now c.word_length-length.result c.if-length-gt0.true c.word_length-length.ensures.within
    c.word_length-length.ensures.run c.word_length-length.ensures.ends

pub returns-else-length-gt0 : goal.returns-else-length-gt0
returns-else-length-gt0 c =
    mark_first c.args.text.now c.word_length-length.result (omega arith) c.requires.some c.requires.no_blank c.word_length-length.ensures.ends
    ∙ ap (λ (p : Piece). p ∷ pieces (take (length c.args.text.now - 1) (drop 1 c.args.text.now))) (search rules)
