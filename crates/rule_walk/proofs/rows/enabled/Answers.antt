use Rattle.std.proofs.Common.{rules, map}
use Rattle.spec_core.specs.Code.{program_of, variable_of}
use Rattle.rule_model.specs.Behaviours.{behaviour_of}
use Rattle.rule_substitution.specs.Scopes.{terms_of}
use Rattle.rule_walk.specs.Frames.{handing}
use Rattle.rule_walk.proofs.Frames.{not_admitted}
use Rattle.rule_walk.proofs.Misfits.{unhanded}
use Rattle.rule_walk.proofs.rows.enabled.Goals as goal

pub returns-in_err-more-in-Exit : goal.returns-in_err-more-in-Exit
returns-in_err-more-in-Exit c =
    not_admitted (program_of c.args.checked.now).theory (terms_of c.args.scope.now)
    (handing (map variable_of c.args.vars.now) (behaviour_of c.args.right.now)) c.args.done c.from_residual.result
    c.in_err-more-in-Exit.field-0.0 (search rules)
    (unhanded (program_of c.args.checked.now).theory (terms_of c.args.scope.now) (map variable_of c.args.vars.now) c.args.done.action
    c.in-Exit.values c.in_err-more-in-Exit.field-0.0 (search rules) (search rules))
