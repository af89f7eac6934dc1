use Rattle.std.proofs.Common.{rules, ◌≡◌, false, IsTrue, subst}
use Rattle.spec_core.specs.Terms.{term_of}
use Rattle.spec_core.proofs.Lists.{untrue}
use Rattle.rewriter.specs.Answers.{IsWithin}
use Rattle.match_code.specs.Prepared.{program_in}
use Rattle.rule_walk.specs.Bounds.{FaultBounds}
use Rattle.rule_walk.proofs.Bounds.{fault_within}
use Rattle.rule_walk.proofs.Choosing.{no_value, asked_choice}
use Rattle.rule_walk.proofs.Faults.{here_explains}
use Rattle.rule_walk.proofs.fields.as_value.Goals as goal

pub returns-in-Ok-true-clause-within : goal.returns-in-Ok-true-clause-within
returns-in-Ok-true-clause-within c =
    let theory = (program_in c.args.prepared.now).theory in
    asked_choice theory c.args.value.now (term_of c.args.term) c.args.sort.0 c.requires.spells (λ x. IsWithin theory x c.args.budget)
    c.in-Ok-true.ensures.within

pub returns-in-Ok-false-clause-fault : goal.returns-in-Ok-false-clause-fault
returns-in-Ok-false-clause-fault c =
    let theory = (program_in c.args.prepared.now).theory in
    let no : c.in-Ok-false.field-0 ≡ false = search rules in
    here_explains theory c.args.budget _ _ c.unfit.result c.unfit.ensures.here
    (no_value theory c.args.value.now (term_of c.args.term) c.args.sort.0 c.requires.spells
    (λ v. untrue (subst IsTrue no (c.in-Ok-false.ensures.decides.1 v))))

pub returns-in-Ok-false-clause-within : goal.returns-in-Ok-false-clause-within
returns-in-Ok-false-clause-within c =
    let theory = (program_in c.args.prepared.now).theory in
    asked_choice theory c.args.value.now (term_of c.args.term) c.args.sort.0 c.requires.spells
    (FaultBounds theory c.args.budget c.unfit.result)
    (λ k. fault_within theory c.args.budget c.unfit.result (term_of c.args.term) (c.in-Ok-false.ensures.within k))
