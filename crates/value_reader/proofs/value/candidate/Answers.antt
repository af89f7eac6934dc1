use Rattle.std.proofs.Common.{◌∙◌, ap, sym, map, option_map}
use Rattle.spec_core.specs.Theories.{theory_of}
use Rattle.value_reader.specs.Views.{piece_of, state_of}
use Rattle.value_reader.proofs.Values.{read_ground}
use Rattle.value_reader.proofs.value.candidate.Goals as goal

pub returns-in-Some-clause-ground : goal.returns-in-Some-clause-ground
returns-in-Some-clause-ground c =
    read_ground (theory_of c.args.algebra.now) (map piece_of c.in_ok-pieces.pieces.items) (state_of c.in-Some.reading) c.whole.result
    (ap (option_map state_of) (sym c.in-Some.is) ∙ c.in_ok-read_all.ensures) c.whole.ensures
