use Rattle.std.proofs.Common.{rules}
use Rattle.spec_core.specs.Terms.{term_of}
use Rattle.spec_core.proofs.Options.{if_none_at}
use Rattle.value_terms.specs.Spelled.{SpellsTerm}
use Rattle.value_terms.proofs.Values.{found_term, spelled_value}
use Rattle.match_code.specs.Prepared.{program_in}
use Rattle.rule_walk.proofs.judge.spelled_value.Goals as goal

pub unreachable-requires : goal.unreachable-requires
unreachable-requires c =
    let s = spelled_value (program_in c.args.prepared.now).theory c.requires.executable (term_of c.args.ground.term) c.in_ok-value.value
    c.args.budget c.args.ground.sort.0 c.requires.fits c.in_ok-value.ensures.value in
    if_none_at c.in_ok-term_of_sort.field-0 c.in-None.is c.in_ok-term_of_sort.ensures.none s.0
    (record { spelled = s.1.spelled; of_sort = s.1.of_sort })

pub returns-clause-value : goal.returns-clause-value
returns-clause-value c =
    let spells : SpellsTerm (program_in c.args.prepared.now).theory c.in_ok-value.value (term_of c.in-Some.term) c.args.ground.sort.0 =
    search rules in
    found_term (program_in c.args.prepared.now).theory c.requires.executable (term_of c.args.ground.term) (term_of c.in-Some.term)
    c.in_ok-value.value c.args.budget c.args.ground.sort.0 c.requires.fits c.in_ok-value.ensures.value spells
