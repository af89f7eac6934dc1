use Rattle.sort_overloads.specs.Tables.{reading_of, fits}
use Rattle.sort_overloads.proofs.Loops.{those-next}
use Rattle.sort_overloads.proofs.selection.selected_readings.Goals as goal

pub loop-reading-preserved : goal.loop-reading-preserved
loop-reading-preserved c tables =
    those-next (reading_of tables) (fits c.args.wanted.now) c.loop-reading.yielded c.in-Some.reading c.loop-reading.kept.items c.keep_if.new.kept.items _
    c.fits.ensures (c.loop-reading.invariant tables) c.in_ok-keep_if.ensures
