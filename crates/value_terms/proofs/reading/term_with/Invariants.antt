use Rattle.std.proofs.Common.{◌-◌, map, drop}
use Rattle.spec_core.specs.Numbers.{op_number}
use Rattle.spec_core.specs.Theories.{theory_of}
use Rattle.value_terms.specs.Stacks.{IsRead}
use Rattle.value_terms.proofs.reading.term_with.Given as goal

abbrev pub invariant-loop-i : goal.invariant-loop-i
invariant-loop-i l = IsRead (theory_of l.algebra) l.stack.items (map op_number (drop (l.count - l.i) l.ops))
