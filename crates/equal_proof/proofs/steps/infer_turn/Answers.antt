use Rattle.std.proofs.Common.{◌-◌, arith}
use Rattle.spec_core.specs.Theories.{theory_of}
use Rattle.equal_proof.proofs.Inferred.{one_pair, pair_of_each, turn_inferred, turn_needs_one}
use Rattle.equal_proof.proofs.steps.infer_turn.Goals as goal

pub returns-in-len1-clause-there : goal.returns-in-len1-clause-there
returns-in-len1-clause-there c =
    let p = pair_of_each c.args.table.now c.args.taken.now 0 (omega (arith, c.in-len1.len_at_least)) c.requires.there in (p.1, p.0)

pub returns-in-len1-clause-some : goal.returns-in-len1-clause-some
returns-in-len1-clause-some c =
    turn_inferred (theory_of c.args.algebra.now) c.args.table.now c.args.taken.now _
    (one_pair c.args.taken.now c.in-len1.len_at_least c.in-len1.len_below)

pub returns-in_default-clause-none : goal.returns-in_default-clause-none
returns-in_default-clause-none c =
    λ put h. let n = turn_needs_one (theory_of c.args.algebra.now) c.args.table.now c.args.taken.now put h in omega
    (arith, n, c.in_default.len_below)

pub returns-in_default-2-clause-none : goal.returns-in_default-2-clause-none
returns-in_default-2-clause-none c =
    λ put h. let n = turn_needs_one (theory_of c.args.algebra.now) c.args.table.now c.args.taken.now put h in omega
    (arith, n, c.in_default.len_at_least)
