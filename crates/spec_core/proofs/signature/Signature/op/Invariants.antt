use Rattle.std.proofs.Common.{take, map}
use Rattle.spec_core.specs.Lists.{Each}
use Rattle.spec_core.specs.Numbers.{sort_number}
use Rattle.spec_core.specs.Signatures.{IsDeclaredAs}
use Rattle.spec_core.specs.Theories.{operation_of}
use Rattle.spec_core.proofs.signature.Signature.op.Given as goal

abbrev pub invariant-loop-i : goal.invariant-loop-i
invariant-loop-i l = Each (λ d. IsDeclaredAs l.name (map sort_number l.args) l.sort.0 (operation_of d) → ⊥) (take l.i l.self.ops.items)
