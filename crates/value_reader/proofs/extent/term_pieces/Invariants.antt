use Rattle.std.proofs.Common.{◌≡◌, ◌++◌, map}
use Rattle.value_reader.specs.Extents.{extent, start}
use Rattle.value_reader.specs.Items.{items}
use Rattle.value_reader.specs.Views.{piece_of, place_of}
use Rattle.value_reader.proofs.extent.term_pieces.Given as goal

abbrev pub invariant-loop-turn : goal.invariant-loop-turn
invariant-loop-turn l = map piece_of l.all.items ++ extent (items l.rest) (place_of l.place) ≡ extent (items l.text) start
