use Rattle.std.proofs.Common.{ap, ◌∙◌, refl}
use Rattle.std.specs.List.{slice_index_or}
use Rattle.sort_overloads.specs.Tables.{reading_of, picked, no_reading_there}
use Rattle.sort_overloads.proofs.Loops.{picks-next, mapped-at}
use Rattle.sort_overloads.proofs.combine.picks_of_sort.Goals as goal

pub loop-i-preserved : goal.loop-i-preserved
loop-i-preserved c tables inner e =
    picks-next (picked tables) (reading_of inner) c.args.sort.0 c.args.readings.now c.loop-i.i c.index-readings-i.result c.loop-i.picks.items c.add_if.new.picks.items _ _
    c.loop-i-test.true c.index-readings-i.is refl
    (ap (λ z. (slice_index_or z c.loop-i.i no_reading_there).term) e ∙ ap (λ z. z.term) (mapped-at (reading_of inner) c.args.readings.now c.loop-i.i c.index-readings-i.result no_reading_there c.loop-i-test.true c.index-readings-i.is))
    (c.loop-i.invariant tables inner e) c.in_ok-add_if.ensures
