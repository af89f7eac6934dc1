use Rattle.std.proofs.Common.{◌≡◌, vec_len}
use Rattle.std.specs.List.{concat}
use Rattle.lotos_outside.specs.Source.{pieces_of, next_piece}
use Rattle.lotos_outside.proofs.memory_source.skip_empty.Given as goal

abbrev pub invariant-loop-first : goal.invariant-loop-first
invariant-loop-first l = record {
  same : concat (pieces_of l.pieces.items) ≡ concat (pieces_of l.initial.pieces.items);
  next : next_piece (pieces_of l.pieces.items) ≡ next_piece (pieces_of l.initial.pieces.items);
}

abbrev pub decreases-loop-first : goal.decreases-loop-first
decreases-loop-first l = vec_len l.pieces
