use Rattle.flattening.proofs.copies.add_bad_copy_by.Goals as goal

pub returns-in-Renamed : goal.returns-in-Renamed
returns-in-Renamed c = rw c.in-Renamed.is c.add_bad_renamed.ensures

pub returns-in-Actualized : goal.returns-in-Actualized
returns-in-Actualized c = rw c.in-Actualized.is (rw (← c.deref.ensures.value) c.add_bad_actualization.ensures)
