use Rattle.std.proofs.Common.{◌≡◌, map, drop}
use Rattle.lotos_ast.specs.Pieces.{first_length}
use Rattle.lotos_lexer.proofs.symbol.first_length.Given as goal

abbrev pub invariant-loop-spelling : goal.invariant-loop-spelling
invariant-loop-spelling l = first_length l.text (map (λ w. w.now) l.spellings) ≡ first_length l.text (map (λ w. w.now) (drop l.spelling-index l.spellings))
