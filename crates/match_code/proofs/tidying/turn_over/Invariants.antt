use Rattle.std.proofs.Common.{◌≡◌, ◌++◌, map, reverse}
use Rattle.spec_core.specs.Lists.{Each}
use Rattle.spec_core.specs.Theories.{theory_of}
use Rattle.value_nodes.specs.Copies.{AreCopies}
use Rattle.value_nodes.specs.Nodes.{IsLonger}
use Rattle.match_code.specs.States.{IsFrame, waiting_of}
use Rattle.match_code.proofs.tidying.turn_over.Given as goal

abbrev pub invariant-loop-turn : goal.invariant-loop-turn
invariant-loop-turn l = record {
  copies : AreCopies l.from l.into l.copies;
  longer : IsLonger l.fn.into l.into;
  remaining : Each (IsFrame (theory_of l.algebra) l.from) l.left;
  done : Each (IsFrame (theory_of l.algebra) l.into) l.turned;
  same : reverse (map (waiting_of (theory_of l.algebra) l.into) l.turned) ++ map (waiting_of (theory_of l.algebra) l.from) l.left
      ≡ map (waiting_of (theory_of l.algebra) l.from) l.fn.frames;
}
