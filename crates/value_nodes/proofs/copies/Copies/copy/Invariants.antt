use Rattle.spec_core.specs.Lists.{Each}
use Rattle.value_nodes.specs.Copies.{AreCopies}
use Rattle.value_nodes.specs.Nodes.{IsNode, IsLonger}
use Rattle.value_nodes.proofs.copies.Copies.copy.Given as goal

abbrev pub invariant-loop-turn : goal.invariant-loop-turn
invariant-loop-turn l = record {
  copies : AreCopies l.from l.into l.self;
  longer : IsLonger l.fn.into l.into;
  waiting : Each (IsNode l.from) l.waiting.items;
}
