use Rattle.std.proofs.Common.{rules, ◌-◌, [], length}
use Rattle.spec_core.specs.Theories.{theory_of}
use Rattle.equal_proof.proofs.Running.{grows_itself}
use Rattle.value_table.specs.Spelled.{SpellsOne}
use Rattle.equal_proof.proofs.Inferred.{no_length, none_length, same_inferred, stack_length}
use Rattle.equal_proof.proofs.steps.infer_same.Goals as goal

pub returns-then-not-is_empty-clause-grown : goal.returns-then-not-is_empty-clause-grown
returns-then-not-is_empty-clause-grown c =
    grows_itself (theory_of c.args.algebra.now) c.args.table.now c.requires.fit

pub returns-then-not-is_empty-clause-none : goal.returns-then-not-is_empty-clause-none
returns-then-not-is_empty-clause-none c =
    λ put h. no_length c.is_empty.result (length c.args.taken.now) c.is_empty.ensures c.if-not-is_empty.true
    (stack_length c.args.table.now c.args.taken.now [] h.3)

pub returns-in-None-clause-grown : goal.returns-in-None-clause-grown
returns-in-None-clause-grown c =
    record { longer = c.in_ok-read.ensures.longer; fit = c.in_ok-read.ensures.fit }

pub returns-in-None-clause-none : goal.returns-in-None-clause-none
returns-in-None-clause-none c =
    let none : SpellsOne (theory_of c.args.algebra.now) c.args.value.now → ⊥ = search rules in
    λ put h. none (h.0, h.1, h.2)

pub returns-in-Some-clause-grown : goal.returns-in-Some-clause-grown
returns-in-Some-clause-grown c =
    record { longer = c.in_ok-read.ensures.longer; fit = c.in_ok-read.ensures.fit }

pub returns-in-Some-clause-some : goal.returns-in-Some-clause-some
returns-in-Some-clause-some c =
    same_inferred (theory_of c.args.algebra.now) c.args.table.now c.read.new.table c.args.value.now c.in-Some.row c.args.taken.now
    c.in_ok-read.ensures.fit (search rules) (search rules)
    (none_length c.is_empty.result (length c.args.taken.now) c.is_empty.ensures c.if-not-is_empty.false)
