use Rattle.type_cycles.proofs.Marks.{none_marked}
use Rattle.type_cycles.proofs.ends.ends.Goals as goal

pub loop-pass-init : goal.loop-pass-init
loop-pass-init c = none_marked _ _ (c.in_ok-marks.ensures.items_if_clones_equal (λ y e. e))
