use Rattle.spec_core.specs.Theories.{theory_of}
use Rattle.cover_search.proofs.Inhabiting.{all_in}
use Rattle.cover_search.proofs.sorts.inhabited_sorts.Goals as goal

pub returns-then-not-spread : goal.returns-then-not-spread
returns-then-not-spread c = record {
  exact = λ s. (
    c.spread.ensures.sound c.loop-round.invariant s,
    λ h. all_in (theory_of c.args.algebra.now) c.spread.new.set (c.spread.ensures.closed c.if-not-spread.true) h.0 s h.1 h.2,
  );
}
