use Rattle.std.proofs.Common.{◌≡◌, map}
use Rattle.spec_core.specs.Theories.{theory_of}
use Rattle.value_reader.specs.Stands.{nothing_read, run}
use Rattle.value_reader.specs.Views.{piece_of, state_of}
use Rattle.value_reader.proofs.reading.read_all.Given as goal

abbrev pub invariant-loop-turn : goal.invariant-loop-turn
invariant-loop-turn l =
    run (theory_of l.algebra) (map piece_of l.pieces.items) (state_of l.reading)
    ≡ run (theory_of l.algebra) (map piece_of l.fn.pieces.items) nothing_read
