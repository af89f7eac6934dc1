use Rattle.spec_core.specs.Terms.{term_of}
use Rattle.match_code.specs.Prepared.{program_in}
use Rattle.node_values.proofs.Finding.{spelled_found}
use Rattle.value_terms.proofs.Values.{unground_value}
use Rattle.node_values.proofs.value.operations_of.Goals as goal

pub returns-in_ok-evaluate-clause-some : goal.returns-in_ok-evaluate-clause-some
returns-in_ok-evaluate-clause-some c =
    spelled_found (program_in c.args.prepared.now).theory c.requires.executable (term_of c.args.term) c.in_ok-evaluate.field-0 c.args.budget
    (c.is_ground.ensures.yes c.if-is_ground.true) c.in_ok-evaluate.ensures.value

pub returns-else-is_ground-clause-none : goal.returns-else-is_ground-clause-none
returns-else-is_ground-clause-none c =
    unground_value (program_in c.args.prepared.now).theory c.requires.executable.fits (term_of c.args.term)
    (c.is_ground.ensures.no c.if-is_ground.false)
