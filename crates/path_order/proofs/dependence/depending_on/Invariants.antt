use Rattle.std.proofs.Common.{ℕ, take}
use Rattle.path_order.specs.Mentioning.{AreMentions, IsNoted}
use Rattle.spec_core.specs.Lists.{IsOneOf}
use Rattle.spec_core.specs.Order.{DependsOn}
use Rattle.spec_core.specs.Theories.{Theory}
use Rattle.path_order.proofs.dependence.depending_on.Given as goal

abbrev pub invariant-loop-place : goal.invariant-loop-place
invariant-loop-place l = record {
  start : IsOneOf l.fn.op.0 l.found.keys;
  sound : (theory : Theory) → AreMentions theory l.mentions → (g : ℕ) → IsOneOf g l.found.keys → DependsOn theory g l.fn.op.0;
  closed : (g h : ℕ) → IsOneOf g (take l.place l.found.keys) → IsNoted l.mentions g h → IsOneOf h l.found.keys;
}
