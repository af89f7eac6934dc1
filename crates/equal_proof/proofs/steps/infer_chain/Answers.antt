use Rattle.std.proofs.Common.{◌≡◌, ◌-◌, ◌∙◌, arith, sym, true, false, if◌then◌else◌}
use Rattle.spec_core.specs.Theories.{theory_of}
use Rattle.equal_proof.proofs.Inferred.{chain_inferred, chain_meets, chain_needs_two, pair_of_each, two_pairs}
use Rattle.equal_proof.proofs.steps.infer_chain.Goals as goal

pub same-requires-clause-left : goal.same-requires-clause-left
same-requires-clause-left c =
    (pair_of_each c.args.table.now c.args.taken.now 0 (omega (arith, c.in-len2.len_at_least)) c.requires.there).1

pub same-requires-clause-right : goal.same-requires-clause-right
same-requires-clause-right c =
    (pair_of_each c.args.table.now c.args.taken.now 1 (omega (arith, c.in-len2.len_at_least)) c.requires.there).0

pub returns-then-same-clause-there : goal.returns-then-same-clause-there
returns-then-same-clause-there c =
    let p = pair_of_each c.args.table.now c.args.taken.now 0 (omega (arith, c.in-len2.len_at_least)) c.requires.there in
    let q = pair_of_each c.args.table.now c.args.taken.now 1 (omega (arith, c.in-len2.len_at_least)) c.requires.there in (p.0, q.1)

pub returns-then-same-clause-some : goal.returns-then-same-clause-some
returns-then-same-clause-some c =
    chain_inferred (theory_of c.args.algebra.now) c.args.table.now c.args.taken.now _ _
    (two_pairs c.args.taken.now c.in-len2.len_at_least c.in-len2.len_below) (c.same.ensures.decides.0 c.if-same.true)

pub returns-else-same-clause-none : goal.returns-else-same-clause-none
returns-else-same-clause-none c =
    λ put h. let m = chain_meets (theory_of c.args.algebra.now) c.args.table.now c.args.taken.now _ _ put
    (two_pairs c.args.taken.now c.in-len2.len_at_least c.in-len2.len_below) h in
    let n : true ≡ false = sym (c.same.ensures.decides.1 m) ∙ c.if-same.false in
    let z : ⊥ = cc in z

pub returns-in_default-clause-none : goal.returns-in_default-clause-none
returns-in_default-clause-none c =
    λ put h. let n = chain_needs_two (theory_of c.args.algebra.now) c.args.table.now c.args.taken.now put h in omega
    (arith, n, c.in_default.len_below)

pub returns-in_default-2-clause-none : goal.returns-in_default-2-clause-none
returns-in_default-2-clause-none c =
    λ put h. let n = chain_needs_two (theory_of c.args.algebra.now) c.args.table.now c.args.taken.now put h in omega
    (arith, n, c.in_default.len_at_least)
