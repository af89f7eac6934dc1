use Rattle.std.proofs.Common.{inl, inr}
use Rattle.spec_core.specs.Theories.{theory_of}
use Rattle.spec_core.proofs.Lists.{untrue}
use Rattle.cover_search.proofs.heads.HeadIndex.is_constructor.Goals as goal

pub returns-else-is_marked : goal.returns-else-is_marked
returns-else-is_marked c =
    let none = c.heads_none.ensures (theory_of c.args.algebra.now).equations c.requires.index in
    record {
      decides = (
        λ i. inl (none.0 i),
        λ k. elim k [ inl n ↦ none.1 n | inr m ↦ absurd (untrue (c.if-is_marked.ensures.decides.1 m)) ],
      );
    }
