use Rattle.std.proofs.Common.{map, length, ap, arith}
use Rattle.spec_core.specs.Numbers.{sort_number}
use Rattle.spec_core.specs.Signatures.{IsDeclaredAs}
use Rattle.spec_core.specs.Theories.{operation_of}
use Rattle.spec_core.proofs.Lists.{untrue, each-next, each-all, each-map}
use Rattle.spec_core.proofs.signature.Signature.op.Goals as goal

pub returns-clause-none : goal.returns-clause-none
returns-clause-none c =
    each-map (λ d. IsDeclaredAs c.args.name.now (map sort_number c.args.args.now) c.args.sort.0 d → ⊥) operation_of _
    (each-all _ c.args.self.now.ops.items c.loop-i.i (omega (arith, ap length c.deref-declaration-items.ensures.value)) c.loop-i.invariant)

pub loop-i-preserved : goal.loop-i-preserved
loop-i-preserved c =
    each-next (λ d. IsDeclaredAs c.args.name.now (map sort_number c.args.args.now) c.args.sort.0 (operation_of d) → ⊥) _ _ _
    c.declaration-item.result
    c.deref-declaration-items.ensures.value c.loop-i-test.true c.declaration-item.is c.loop-i.invariant
    (λ h. untrue (c.if-is_declared_as.ensures.1 h))
