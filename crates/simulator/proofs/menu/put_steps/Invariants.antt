use Rattle.std.proofs.Common.{◌+◌, ◌++◌, ◌≡◌, drop, map, string_bytes}
use Rattle.trace_text.specs.Names.{names_with}
use Rattle.simulator.specs.Menus.{action_in, step_lines}
use Rattle.simulator.proofs.menu.put_steps.Given as goal

abbrev pub invariant-loop-step : goal.invariant-loop-step
invariant-loop-step l = record {
  lines : string_bytes l.out ++ step_lines (names_with l.vocabulary) (l.number + 1) (map action_in (drop l.step-index l.steps)) ≡
      string_bytes l.fn.out ++ step_lines (names_with l.vocabulary) 1 (map action_in l.steps);
  counted : l.number ≡ l.step-index;
}
