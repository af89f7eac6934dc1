use Rattle.std.proofs.Common.{◌≡◌, ◌≤◌, drop}
use Rattle.std.specs.Prelude.{min}
use Rattle.script_text.specs.Numbers.{number_behind}
use Rattle.simulator_lines.specs.Lines.{greatest, number_in}
use Rattle.simulator_lines.proofs.digits.number_in.Given as goal

abbrev pub invariant-loop-digit : goal.invariant-loop-digit
invariant-loop-digit l = (min (number_behind l.number (drop l.digit-index l.digits)) greatest ≡ number_in l.digits) × (l.number ≤ greatest)
