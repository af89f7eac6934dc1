use Rattle.spec_core.specs.Theories.{theory_of}
use Rattle.cover_check.proofs.Opening.{all_open}
use Rattle.cover_check.proofs.sorts.open_sorts.Goals as goal

pub returns-then-not-spread : goal.returns-then-not-spread
returns-then-not-spread c = record {
  exact = λ s. (
    c.spread.ensures.sound c.loop-round.invariant s,
    all_open (theory_of c.args.algebra.now) c.spread.new.set (c.spread.ensures.closed c.if-not-spread.true) s,
  );
}
