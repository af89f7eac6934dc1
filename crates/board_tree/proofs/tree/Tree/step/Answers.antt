use Rattle.std.proofs.Common.{rules, ◌≡◌, Some, subst, sym}
use Rattle.spec_core.specs.Code.{program_of}
use Rattle.rule_model.specs.Derivations.{derivation_of}
use Rattle.node_trees.specs.Shapes.{shape_of}
use Rattle.board_tree.specs.Changes.{changed}
use Rattle.board_tree.specs.Views.{shape, IsReserved, IsStep}
use Rattle.board_tree.proofs.Stepping.{moved_step}
use Rattle.board_tree.proofs.tree.Tree.step.Goals as goal

pub returns-in-Some-clause-step : goal.returns-in-Some-clause-step
returns-in-Some-clause-step c =
    let v = c.self.inside in
    let p = program_of c.args.checked.now in
    let d = derivation_of c.args.rules.now in
    let r = c.in-Some.ready in
    let t = shape_of v.root in
    let x = c.into_after-change.result in
    let a = c.into_after-change.ensures in
    let n = shape_of c.put_in.new.branch in
    let reserved = subst (λ z. IsReserved p (shape z) z.next d z.ready) (sym c.self.view_is) c.requires.reserved in
    let there : v.ready ≡ Some r = search rules in
    let kept = subst (IsReserved p t v.next d) there reserved in
    let step =
    moved_step p t (changed r.change t) d r.action v.next r.next r.gone.items r.came.items c.self.invariant kept.0 kept.1 kept.2
    in
    subst (λ z. IsStep p (shape z) z.next d n x.next x.gone.items x.came.items) c.self.view_is
    (subst (λ z. IsStep p t v.next d z x.next x.gone.items x.came.items) (sym c.put_in.ensures.changed)
    (subst (λ z. IsStep p t v.next d (changed z t) x.next x.gone.items x.came.items) (sym a.change)
    (subst (λ z. IsStep p t v.next d (changed r.change t) z x.gone.items x.came.items) (sym a.next)
    (subst (λ z. IsStep p t v.next d (changed r.change t) r.next z.items x.came.items) (sym a.gone)
    (subst (λ z. IsStep p t v.next d (changed r.change t) r.next r.gone.items z.items) (sym a.came) step)))))
