use Rattle.spec_core.specs.Theories.{theory_of}
use Rattle.spec_core.proofs.Lists.{untrue}
use Rattle.cover_search.specs.Constructors.{constructors_at}
use Rattle.cover_search.proofs.Constructing.{not_added}
use Rattle.cover_search.proofs.constructors.ConstructorIndex.add.Goals as goal

pub returns-then-not-is_constructor : goal.returns-then-not-is_constructor
returns-then-not-is_constructor c = λ s.
    not_added (theory_of c.args.algebra.now) c.args.op.0 s (constructors_at c.args.self.now s)
    (λ k. untrue (c.if-not-is_constructor.ensures.decides.1 k))
