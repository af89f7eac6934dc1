use Rattle.std.proofs.Common.{◌≡◌, map, take}
use Rattle.spec_core.specs.Lists.{Each}
use Rattle.spec_core.specs.Theories.{Theory}
use Rattle.value_nodes.specs.Copies.{AreCopies}
use Rattle.value_nodes.specs.Nodes.{IsLonger}
use Rattle.rewriter.specs.Steps.{task_of, IsStep, IsHeld}
use Rattle.rewriter.proofs.step.Todo.follow.Given as goal

abbrev pub invariant-loop-step : goal.invariant-loop-step
invariant-loop-step l = record {
  copies : AreCopies l.from l.into l.copies;
  longer : IsLonger l.fn.into l.into;
  held : Each (IsHeld l.into) l.steps.items;
  steps : (theory : Theory) → Each (IsStep theory l.from) (take l.step-index l.step-items) → Each (IsStep theory l.into) l.steps.items;
  same : (theory : Theory) → map (task_of theory l.into) l.steps.items ≡ map (task_of theory l.from) (take l.step-index l.step-items);
}
