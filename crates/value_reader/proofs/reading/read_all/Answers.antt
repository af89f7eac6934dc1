use Rattle.std.proofs.Common.{rules, ◌≡◌, ◌∙◌, ◌++◌, ◌∷◌, [], map, true, false}
use Rattle.spec_core.specs.Theories.{theory_of}
use Rattle.value_reader.specs.Stands.{step}
use Rattle.value_reader.specs.Views.{piece_of, state_of}
use Rattle.value_reader.proofs.Taking.{not_taken, popped, taken, took, took_not}
use Rattle.value_reader.proofs.reading.read_all.Goals as goal

pub returns-then-not-branch : goal.returns-then-not-branch
returns-then-not-branch c =
    let items : c.loop-turn.pieces.items ≡ c.pop.new.self.items ++ c.in-Some.piece ∷ [] = search rules in
    let no : c.in_ok-take-in-Some.field-0 ≡ false = search rules in
    not_taken (theory_of c.args.algebra.now) (map piece_of c.pop.new.self.items) (map piece_of c.loop-turn.pieces.items)
    (piece_of c.in-Some.piece) (state_of c.loop-turn.reading)
    (popped piece_of c.loop-turn.pieces.items c.pop.new.self.items c.in-Some.piece items)
    (took_not c.in_ok-take-in-Some.field-0
    (step (theory_of c.args.algebra.now) (piece_of c.in-Some.piece) (state_of c.loop-turn.reading)) (state_of c.take.new.reading)
    c.in_ok-take-in-Some.ensures no)
    ∙ c.loop-turn.invariant

pub loop-turn-preserved : goal.loop-turn-preserved
loop-turn-preserved c =
    let items : c.loop-turn.pieces.items ≡ c.pop.new.self.items ++ c.in-Some.piece ∷ [] = search rules in
    let yes : c.in_ok-take-in-Some.field-0 ≡ true = search rules in
    taken (theory_of c.args.algebra.now) (map piece_of c.pop.new.self.items) (map piece_of c.loop-turn.pieces.items)
    (piece_of c.in-Some.piece) (state_of c.loop-turn.reading) (state_of c.take.new.reading)
    (popped piece_of c.loop-turn.pieces.items c.pop.new.self.items c.in-Some.piece items)
    (took c.in_ok-take-in-Some.field-0
    (step (theory_of c.args.algebra.now) (piece_of c.in-Some.piece) (state_of c.loop-turn.reading)) (state_of c.take.new.reading)
    c.in_ok-take-in-Some.ensures yes)
    ∙ c.loop-turn.invariant
