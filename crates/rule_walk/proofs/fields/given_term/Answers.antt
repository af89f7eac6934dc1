use Rattle.spec_core.specs.Code.{program_of}
use Rattle.rule_walk.proofs.Choosing.{given_values}
use Rattle.rule_walk.proofs.fields.given_term.Goals as goal

pub returns-clause-some : goal.returns-clause-some
returns-clause-some c =
    given_values (program_of c.args.checked.now).theory c.args.value.now c.args.sort.0 c.term_of_sort.result c.requires.given
    c.term_of_sort.ensures.some
