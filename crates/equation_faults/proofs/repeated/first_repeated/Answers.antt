use Rattle.std.proofs.Common.{◌<◌, ◌+◌, [], ◌∷◌, length, take, drop, get_or, subst, sym, refl, inl, inr}
use Rattle.std.proofs.lemmas.List.{take_more, take_all}
use Rattle.equation_sets.proofs.Members.{Distinct, distinct_joined, parted}
use Rattle.equation_sets.proofs.Walks.{exact_next, within_at}
use Rattle.spec_core.proofs.Lists.{untrue}
use Rattle.spec_core.specs.Lists.{Each, IsOneOf}
use Rattle.equation_faults.proofs.repeated.first_repeated.Goals as goal

pub returns-then-has-clause-first : goal.returns-then-has-clause-first
returns-then-has-clause-first c = record {
  before = take c.loop-x.x-index c.args.all.now;
  behind = drop (c.loop-x.x-index + 1) c.args.all.now;
  parts = parted c.args.all.now c.loop-x.x-index 0 c.loop-x-test.true;
  again = (c.loop-x.invariant.exact _).0 (c.if-has.ensures.decides.0 refl);
  none_before = c.loop-x.invariant.distinct;
}

pub loop-x-preserved : goal.loop-x-preserved
loop-x-preserved c =
    let all = c.args.all.now in
    let i = c.loop-x.x-index in
    let x = get_or all i 0 in
    record {
      within = subst (λ b. Each (λ n. n < b) all) (sym c.add.ensures.sized) c.loop-x.invariant.within;
      exact = exact_next c.loop-x.seen c.add.new.self all i c.loop-x-test.true c.add.ensures.kept c.add.ensures.only
          (c.add.ensures.added (within_at (length c.loop-x.seen) all i c.loop-x-test.true c.loop-x.invariant.within)) c.loop-x.invariant.exact;
      distinct = subst Distinct (sym (take_more all i 0 c.loop-x-test.true))
          (distinct_joined (take i all) (x ∷ []) c.loop-x.invariant.distinct (tt, tt)
          (λ n o p. elim p [
            | inl e ↦ untrue (c.if-has.ensures.decides.1 ((c.loop-x.invariant.exact x).1 (subst (λ k. IsOneOf k (take i all)) e o)))
            | inr nil ↦ nil
          ]));
    }

pub returns-clause-none : goal.returns-clause-none
returns-clause-none c =
    subst Distinct (take_all c.loop-x.x-index c.args.all.now c.loop-x-test.false) c.loop-x.invariant.distinct
