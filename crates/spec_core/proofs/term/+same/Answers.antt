use Rattle.std.proofs.Common.{arith, sym, ap, ◌∙◌}
use Rattle.spec_core.specs.Terms.{term_of}
use Rattle.spec_core.proofs.Same.{lengths, same_at}
use Rattle.spec_core.proofs.term.+same.Goals as goal

pub all_same-returns-then-left-right : goal.all_same-returns-then-left-right
all_same-returns-then-left-right t c =
    (λ h. cc, λ e. let n = lengths _ _ e in absurd (omega (arith, c.if-left-right.true)))

pub all_same-returns-then-not-same : goal.all_same-returns-then-not-same
all_same-returns-then-not-same t c = (
  λ h. cc,
  λ e. let s = same_at c.args.left.now c.args.right.now c.loop-i.i c.index-left-i.result c.index-right-i.result e c.loop-i-test.true in
      c.if-not-same.ensures.decides.1 (ap term_of c.index-left-i.is ∙ s ∙ sym (ap term_of c.index-right-i.is)),
)
