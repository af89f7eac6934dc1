-- What values of the program stand for.
use Rattle.std.specs.Prelude.{map}
use Rattle.spec_core.specs.Code.{relabelling_of, variable_of, synchronised_of}
use Rattle.spec_core.specs.Numbers.{gate_number}
use Rattle.rule_model.specs.Behaviours.{behaviour_of}
use Rattle.rule_walk.specs.declared.frame.Frame.{Frame}
use Rattle.rule_walk.specs.declared.frame.Frame.TheVariants.{Same, BesideRight, BesideLeft, Hidden, Passing, Enabling, Handing, Disabling}
use Rattle.rule_walk.specs.declared.frame.Frame.TheVariants.{Ending, Renamed}
use Rattle.rule_walk.specs.declared.frame.Framed.{Framed}
use Rattle.rule_walk.specs.Frames as frames
use Rattle.rule_walk.specs.Frames.{Surrounding, unchanged, before_right, after_left, hidden_in, passing, still_enabling, handing}
use Rattle.rule_walk.specs.Frames.{still_disabled, ending, renaming, framed}

abbrev pub surrounding_of : Frame → Surrounding
surrounding_of Same = unchanged
surrounding_of (BesideRight gates right) = before_right (synchronised_of gates.now) (behaviour_of right.now)
surrounding_of (BesideLeft gates left) = after_left (synchronised_of gates.now) (behaviour_of left.now)
surrounding_of (Hidden gates) = hidden_in (map gate_number gates.now)
surrounding_of (Passing gates) = passing (map gate_number gates.now)
surrounding_of (Enabling vars right) = still_enabling (map variable_of vars.now) (behaviour_of right.now)
surrounding_of (Handing vars right) = handing (map variable_of vars.now) (behaviour_of right.now)
surrounding_of (Disabling right) = still_disabled (behaviour_of right.now)
surrounding_of Ending = ending
surrounding_of (Renamed pairs) = renaming (map relabelling_of pairs.now)

abbrev pub framed_in : Framed → frames.Framed
framed_in x = framed (surrounding_of x.frame) (behaviour_of x.part.now)
