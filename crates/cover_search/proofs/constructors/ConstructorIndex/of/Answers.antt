use Rattle.spec_core.specs.Theories.{theory_of}
use Rattle.cover_search.specs.Constructors.{constructors_at}
use Rattle.cover_search.proofs.Constructing.{constructors_next}
use Rattle.cover_search.proofs.constructors.ConstructorIndex.of.Goals as goal

pub loop-i-preserved : goal.loop-i-preserved
loop-i-preserved c = λ s.
    constructors_next (theory_of c.args.algebra.now) s c.loop-i.i (constructors_at c.loop-i.index s) (constructors_at c.add.new.self s)
    (c.loop-i.invariant s) (c.in_ok-add.ensures s)
