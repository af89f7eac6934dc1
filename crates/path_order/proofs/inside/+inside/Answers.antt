use Rattle.std.proofs.Common.{refl, inl, inr}
use Rattle.spec_core.proofs.Lists.{untrue}
use Rattle.spec_core.specs.Terms.{term_of}
use Rattle.path_order.proofs.Walks.{inside_at, inside_next}
use Rattle.path_order.proofs.inside.+inside.Goals as goal
use Rattle.path_order.proofs.inside.+inside.Goals.{is_inside_any-then-same-via-then-same, is_inside_any-then-same-via-else-same+then-is_inside}

pub is_inside_any-returns-then-same : goal.is_inside_any-returns-then-same
is_inside_any-returns-then-same t c = (
  λ h. inside_at (term_of c.args.part.now) c.args.all.now c.loop-whole.whole-index c.whole-item.result c.loop-whole-test.true c.whole-item.is (elim c.then-same.branch [ is_inside_any-then-same-via-then-same w ↦ inl (w.if-same.ensures.decides.0 refl) | is_inside_any-then-same-via-else-same+then-is_inside w ↦ inr (w.if-is_inside.ensures.0 refl) ]),
  λ h. refl,
)

pub is_inside_any-loop-whole-preserved : goal.is_inside_any-loop-whole-preserved
is_inside_any-loop-whole-preserved t c =
    inside_next (term_of c.args.part.now) c.args.all.now c.loop-whole.whole-index c.whole-item.result c.loop-whole-test.true c.whole-item.is c.loop-whole.invariant (λ h. elim h [ inl e ↦ untrue (c.if-same.ensures.decides.1 e) | inr i ↦ untrue (c.if-is_inside.ensures.1 i) ])
