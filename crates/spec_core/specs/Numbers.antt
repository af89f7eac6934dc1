-- Numbers of items.
use Rattle.std.specs.Prelude.{ℕ}
use Rattle.spec_core.specs.declared.items.Sort.{Sort}
use Rattle.spec_core.specs.declared.items.Op.{Op}
use Rattle.spec_core.specs.declared.items.Gate.{Gate}

abbrev pub sort_number : Sort → ℕ
sort_number sort = sort.0

abbrev pub op_number : Op → ℕ
op_number op = op.0

abbrev pub gate_number : Gate → ℕ
gate_number gate = gate.0
