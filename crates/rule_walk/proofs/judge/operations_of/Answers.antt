use Rattle.spec_core.specs.Terms.{instance, term_of}
use Rattle.spec_core.proofs.Options.{if_none_at}
use Rattle.rule_substitution.specs.Scopes.{terms_of}
use Rattle.match_code.specs.Prepared.{program_in}
use Rattle.rule_walk.proofs.Faults.{here_explains}
use Rattle.value_terms.proofs.Values.{unground_value}
use Rattle.rule_walk.proofs.judge.operations_of.Goals as goal

pub returns-in-None-clause-fault : goal.returns-in-None-clause-fault
returns-in-None-clause-fault c =
    here_explains (program_in c.args.prepared.now).theory c.args.budget _ _ c.unfit.result c.unfit.ensures.here
    (unground_value (program_in c.args.prepared.now).theory c.requires.executable.fits
    (instance (terms_of c.args.scope.now) (term_of c.args.term.now)) (if_none_at c.in_ok-closed.field-0 c.in-None.is
    c.in_ok-closed.ensures.none))
