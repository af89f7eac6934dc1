use Rattle.std.proofs.Common.{rules}
use Rattle.spec_core.specs.Terms.{variable}
use Rattle.rule_model.specs.Behaviours.{behaviour_of}
use Rattle.rule_model.specs.Derivations.{derivation_of}
use Rattle.match_code.specs.Prepared.{program_in}
use Rattle.rule_walk.specs.Asking.{Asks}
use Rattle.rule_walk.specs.Parts.{HasNone, IsUnfitAt}
use Rattle.rule_walk.proofs.Bounds.{of_fault}
use Rattle.rule_walk.proofs.Faults.{handed_on}
use Rattle.rule_walk.proofs.NoStep.{unfit_none}
use Rattle.rule_walk.proofs.PartFaults.{unfit_on}
use Rattle.rule_walk.proofs.steps.fire.Goals as goal

pub returns-in_err-action-clause-no_step : goal.returns-in_err-action-clause-no_step
returns-in_err-action-clause-no_step c =
    handed_on c.from_residual.result _ c.in_err-action.field-0.0 (search rules)
    (unfit_on c.in_err-action.field-0.0
    (IsUnfitAt (program_in c.args.prepared.now) variable (behaviour_of c.args.from.now) (derivation_of c.args.rules.now))
    (λ _. HasNone (program_in c.args.prepared.now) variable (behaviour_of c.args.from.now) (derivation_of c.args.rules.now))
    (λ path.
    unfit_none (program_in c.args.prepared.now) c.requires.ready.executable path (derivation_of c.args.rules.now)
    (behaviour_of c.args.from.now) variable) c.in_err-action.ensures.fault.unfit)

pub returns-in_err-action-clause-unfit : goal.returns-in_err-action-clause-unfit
returns-in_err-action-clause-unfit c =
    handed_on c.from_residual.result _ c.in_err-action.field-0.0 (search rules) c.in_err-action.ensures.fault.unfit

pub returns-in_err-action-clause-spent : goal.returns-in_err-action-clause-spent
returns-in_err-action-clause-spent c =
    handed_on c.from_residual.result _ c.in_err-action.field-0.0 (search rules) c.in_err-action.ensures.fault.spent

pub returns-in_err-action-clause-too_large : goal.returns-in_err-action-clause-too_large
returns-in_err-action-clause-too_large c =
    handed_on c.from_residual.result _ c.in_err-action.field-0.0 (search rules) c.in_err-action.ensures.fault.too_large

pub returns-in_err-action-clause-within : goal.returns-in_err-action-clause-within
returns-in_err-action-clause-within c =
    of_fault (program_in c.args.prepared.now).theory c.args.budget
    (Asks (program_in c.args.prepared.now) variable (behaviour_of c.args.from.now) (derivation_of c.args.rules.now))
    c.from_residual.result c.in_err-action.field-0.0 (search rules) c.in_err-action.ensures.within
