use Rattle.std.proofs.Common.{rules, map, refl}
use Rattle.spec_core.specs.Code.{exit_value_of}
use Rattle.rewriter.specs.Answers.{IsWithin}
use Rattle.rule_model.specs.Behaviours.{behaviour_of}
use Rattle.rule_model.specs.Derivations.{exiting}
use Rattle.rule_substitution.specs.Scopes.{terms_of}
use Rattle.match_code.specs.Prepared.{program_in}
use Rattle.rule_walk.specs.Asking.{Asks}
use Rattle.rule_walk.specs.Bounds.{FaultBounds}
use Rattle.rule_walk.proofs.Bounds.{of_fault}
use Rattle.rule_walk.proofs.PartBounds.{asks_nothing}
use Rattle.rule_walk.proofs.RuleBounds.{exit_asked}
use Rattle.rule_walk.proofs.rows.exits.Goals as goal

pub returns-in-None-clause-within : goal.returns-in-None-clause-within
returns-in-None-clause-within c =
    asks_nothing (program_in c.args.prepared.now) (FaultBounds (program_in c.args.prepared.now).theory c.args.budget c.unfit.result)
    (terms_of c.args.scope.now) (behaviour_of c.args.from.now) (exiting c.args.slots.now) (exiting c.args.slots.now) refl
    c.in-None.ensures.none

pub returns-in_err-values-in-Some-clause-within : goal.returns-in_err-values-in-Some-clause-within
returns-in_err-values-in-Some-clause-within c =
    let f = c.in_err-values-in-Some.field-0.0 in
    of_fault (program_in c.args.prepared.now).theory c.args.budget
    (Asks (program_in c.args.prepared.now) (terms_of c.args.scope.now) (behaviour_of c.args.from.now) (exiting c.args.slots.now))
    c.from_residual.result f (search rules)
    (exit_asked (program_in c.args.prepared.now) c.requires.ready.executable (FaultBounds (program_in c.args.prepared.now).theory c.args.budget f)
    (terms_of c.args.scope.now) (behaviour_of c.args.from.now) (map exit_value_of c.in-Some.fields.now) c.args.slots.now (search rules)
    c.in_err-values-in-Some.ensures.within)

pub returns-in_ok-values-in-Some-clause-within : goal.returns-in_ok-values-in-Some-clause-within
returns-in_ok-values-in-Some-clause-within c =
    exit_asked (program_in c.args.prepared.now) c.requires.ready.executable (λ x. IsWithin (program_in c.args.prepared.now).theory x c.args.budget)
    (terms_of c.args.scope.now) (behaviour_of c.args.from.now) (map exit_value_of c.in-Some.fields.now) c.args.slots.now (search rules)
    c.in_ok-values-in-Some.ensures.within
