use Rattle.std.proofs.Common.{length, map, ap, ◌∙◌, arith}
use Rattle.std.specs.Char.{to_ascii_lowercase}
use Rattle.spec_core.specs.Names.{IsSameName}
use Rattle.spec_core.proofs.Lists.{untrue, each-next, each-all}
use Rattle.spec_core.proofs.signature.Signature.sort.Goals as goal

pub returns-clause-none : goal.returns-clause-none
returns-clause-none c =
    each-all _ c.args.self.now.sorts.items c.loop-i.i (omega (arith, ap length c.deref-other-items.ensures.value)) c.loop-i.invariant

pub loop-i-preserved : goal.loop-i-preserved
loop-i-preserved c =
    each-next (λ other. IsSameName other c.args.name.now → ⊥) _ _ _ c.other-item.result
    c.deref-other-items.ensures.value c.loop-i-test.true c.other-item.is c.loop-i.invariant
    (λ h. untrue (c.if-eq_ignore_ascii_case.ensures.test.1 (ap (map to_ascii_lowercase) c.as_str.ensures ∙ h)))
