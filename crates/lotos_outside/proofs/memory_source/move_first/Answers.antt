use Rattle.std.proofs.Common.{◌++◌, List, ℕ, map, slice_set, ap, sym, ◌∙◌}
use Rattle.std.specs.List.{concat}
use Rattle.lotos_outside.proofs.Pieces.{concat-take_first}
use Rattle.lotos_outside.proofs.memory_source.move_first.Goals as goal

pub returns-in-len1-up-clause-moved : goal.returns-in-len1-up-clause-moved
returns-in-len1-up-clause-moved c =
    concat-take_first (λ piece. piece.items) c.args.pieces.now c.index-pieces-0.result c.move_bytes.new.left c.move_bytes.result
    c.in-len1-up.len_at_least c.move_bytes.ensures.left
    ∙ ap (λ (l : List ℕ). l ++ concat (map (λ piece. piece.items) (slice_set c.args.pieces.now 0 c.move_bytes.new.left)))
    (sym c.move_bytes.ensures.moved)
