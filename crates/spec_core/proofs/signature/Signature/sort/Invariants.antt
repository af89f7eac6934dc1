use Rattle.std.proofs.Common.{take}
use Rattle.spec_core.specs.Lists.{Each}
use Rattle.spec_core.specs.Names.{IsSameName}
use Rattle.spec_core.proofs.signature.Signature.sort.Given as goal

abbrev pub invariant-loop-i : goal.invariant-loop-i
invariant-loop-i l = Each (λ other. IsSameName other l.name → ⊥) (take l.i l.self.sorts.items)
