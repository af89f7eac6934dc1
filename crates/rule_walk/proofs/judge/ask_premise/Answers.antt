use Rattle.std.proofs.Common.{rules, refl}
use Rattle.spec_core.specs.Terms.{instance, term_of}
use Rattle.spec_core.proofs.Lists.{untrue}
use Rattle.rule_substitution.specs.Scopes.{terms_of}
use Rattle.match_code.specs.Prepared.{program_in}
use Rattle.rule_walk.proofs.Faults.{handed_on, here_explains}
use Rattle.rule_walk.proofs.Judging.{left_unjudged, right_unjudged}
use Rattle.value_terms.proofs.Values.{equal_spelled}
use Rattle.rule_walk.proofs.judge.ask_premise.Goals as goal

pub returns-in_err-first-clause-fault : goal.returns-in_err-first-clause-fault
returns-in_err-first-clause-fault c =
    handed_on c.from_residual.result _ c.in_err-first.field-0.0 (search rules)
    (left_unjudged (program_in c.args.prepared.now).theory c.requires.executable c.args.budget (terms_of c.args.scope.now)
    (term_of c.args.left.now) (term_of c.args.right.now) c.in_err-first.field-0.0 c.in_err-first.ensures.fault)

pub returns-in_err-second-clause-fault : goal.returns-in_err-second-clause-fault
returns-in_err-second-clause-fault c =
    handed_on c.from_residual-in_err-second.result _ c.in_err-second.field-0.0 (search rules)
    (right_unjudged (program_in c.args.prepared.now).theory c.requires.executable c.args.budget (terms_of c.args.scope.now)
    (term_of c.args.left.now) (term_of c.args.right.now) c.in_err-second.field-0.0 c.in_ok-first.first c.in_ok-first.ensures.value
    c.in_err-second.ensures.fault)

pub returns-then-same-clause-holds : goal.returns-then-same-clause-holds
returns-then-same-clause-holds c =
    (equal_spelled (program_in c.args.prepared.now).theory c.requires.executable (instance (terms_of c.args.scope.now) (term_of
    c.args.left.now))
    (instance (terms_of c.args.scope.now) (term_of c.args.right.now)) c.in_ok-first.first c.in_ok-second.second
    c.in_ok-first.ensures.value c.in_ok-second.ensures.value).0 (c.if-same.ensures.decides.0 refl)

pub returns-clause-fault : goal.returns-clause-fault
returns-clause-fault c =
    here_explains (program_in c.args.prepared.now).theory c.args.budget _ _ c.unfit.result c.unfit.ensures.here
    (λ equal. untrue (c.if-same.ensures.decides.1
    ((equal_spelled (program_in c.args.prepared.now).theory c.requires.executable
    (instance (terms_of c.args.scope.now) (term_of c.args.left.now)) (instance (terms_of c.args.scope.now) (term_of c.args.right.now))
    c.in_ok-first.first c.in_ok-second.second c.in_ok-first.ensures.value c.in_ok-second.ensures.value).1 equal)))
