use Rattle.std.proofs.Common.{◌≡◌, ◌-◌, map, drop}
use Rattle.spec_core.specs.Numbers.{op_number}
use Rattle.spec_core.specs.Theories.{theory_of}
use Rattle.rule_origins.specs.Stacks.{from_top}
use Rattle.rule_origins.specs.Values.{terms_spelled}
use Rattle.rule_origins.proofs.values.read.Given as goal

abbrev pub invariant-loop-i : goal.invariant-loop-i
invariant-loop-i l = from_top l.stack.items ≡ terms_spelled (theory_of l.algebra) (map op_number (drop (l.count - l.i) l.ops))
