use Rattle.std.proofs.Common.{◌≤◌, arith, refl, subst}
use Rattle.spec_core.specs.Lists.{Each}
use Rattle.spec_core.specs.Theories.{equation_of}
use Rattle.spec_core.proofs.Lists.{each-next, each-all, each-map}
use Rattle.path_order.specs.Mentioning.{HeadIsBelow}
use Rattle.path_order.proofs.Depending.{raised}
use Rattle.path_order.proofs.mentions.heads_bound.Goals as goal
use Rattle.path_order.proofs.mentions.heads_bound.Goals.{then-bound-needed, else-bound-needed}

pub loop-equation-preserved : goal.loop-equation-preserved
loop-equation-preserved c =
    let items = c.deref-equation-items.result.now in
    let at = c.loop-equation.equation-index in
    let e = c.equation-item.result in
    let old = c.loop-equation.bound in
    let new = c.if-bound-needed.bound in
    let kept : old ≤ new = elim c.if-bound-needed.branch [
      | then-bound-needed w ↦ omega (arith, w.if-bound-needed.true, w.bound-is)
      | else-bound-needed w ↦ omega (arith, w.bound-is)
    ] in
    let enough : c.head_bound-needed.result ≤ new = elim c.if-bound-needed.branch [
      | then-bound-needed w ↦ omega (arith, w.bound-is)
      | else-bound-needed w ↦ omega (arith, w.if-bound-needed.false, w.bound-is)
    ] in
    each-next (λ d. HeadIsBelow new (equation_of d)) items items at e refl c.loop-equation-test.true c.equation-item.is
    (raised old new items at kept c.loop-equation.invariant)
    (λ f h. let k = c.head_bound-needed.ensures f h in omega (arith, k, enough))

pub returns : goal.returns
returns c =
    let bound = c.loop-equation.bound in
    each-map (HeadIsBelow bound) equation_of c.args.algebra.now.equations.items
    (subst (λ es. Each (λ e. HeadIsBelow bound (equation_of e)) es) c.deref-equation-items.ensures.value
    (each-all (λ e. HeadIsBelow bound (equation_of e)) c.deref-equation-items.result.now c.loop-equation.equation-index c.loop-equation-test.false c.loop-equation.invariant))
