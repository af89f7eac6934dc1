use Rattle.std.proofs.Common.{◌-◌, ◌∷◌, [], arith, refl}
use Rattle.equal_proof.proofs.Inferred.{one_left, one_pair, pair_of_each, stack_length}
use Rattle.equal_proof.proofs.check.only_equation.Goals as goal

pub spell-requires : goal.spell-requires
spell-requires c =
    record { there = (pair_of_each c.args.table.now c.args.stack.now 0 (omega (arith, c.in-len1-up.len_at_least)) c.requires.there).0 }

pub spell-requires-in-len1-up : goal.spell-requires-in-len1-up
spell-requires-in-len1-up c =
    record { there = (pair_of_each c.args.table.now c.args.stack.now 0 (omega (arith, c.in-len1-up.len_at_least)) c.requires.there).1 }

pub returns-in_ok-spell-in-len1-up-2-clause-one : goal.returns-in_ok-spell-in-len1-up-2-clause-one
returns-in_ok-spell-in-len1-up-2-clause-one c =
    one_left c.args.table.now c.args.stack.now _ c.in_ok-spell-in-len1-up.field-0 c.in_ok-spell-in-len1-up-2.field-0
    (one_pair c.args.stack.now c.in-len1-up.len_at_least (omega (arith, c.if-stack-gt-LEFT.false))) c.in_ok-spell-in-len1-up.ensures.spelled
    c.in_ok-spell-in-len1-up-2.ensures.spelled

pub returns-in-empty-clause-none : goal.returns-in-empty-clause-none
returns-in-empty-clause-none c =
    (refl, λ p e. let l = stack_length c.args.table.now c.args.stack.now (p ∷ []) e in omega (arith, l, c.in-empty.len_below))

pub returns-then-stack-gt-LEFT-clause-none : goal.returns-then-stack-gt-LEFT-clause-none
returns-then-stack-gt-LEFT-clause-none c =
    (refl, λ p e. let l = stack_length c.args.table.now c.args.stack.now (p ∷ []) e in omega (arith, l, c.if-stack-gt-LEFT.true))
