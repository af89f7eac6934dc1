use Rattle.std.proofs.Common.{subst, map}
use Rattle.rule_model.specs.Events.{event_of}
use Rattle.match_code.specs.Prepared.{program_in}
use Rattle.log_check.specs.Views.{state_of}
use Rattle.log_check.specs.Checked.{Explains, LogTermsAreWithin}
use Rattle.log_check.proofs.Asked.{log_within}
use Rattle.log_check.proofs.Derivations.{explains}
use Rattle.log_check.proofs.checking.check.Goals as goal

pub returns-clause-fault : goal.returns-clause-fault
returns-clause-fault c =
    let program = program_in c.args.prepared.now in
    subst (λ log. Explains program log c.args.budget c.in-Err.fault) c.as_slice-entries.ensures
    (explains program c.requires.ready.executable (map event_of c.as_slice-entries.result.now) (state_of c.in_ok-state.state) c.args.budget c.in-Err.fault c.in_ok-state.ensures c.in-Err.ensures.fault)

pub returns-in-Ok-clause-within : goal.returns-in-Ok-clause-within
returns-in-Ok-clause-within c =
    let program = program_in c.args.prepared.now in
    subst (λ log. LogTermsAreWithin program log c.args.budget) c.as_slice-entries.ensures
    (log_within program c.requires.ready.executable c.args.budget (map event_of c.as_slice-entries.result.now) (state_of c.in_ok-state.state) c.in_ok-state.ensures c.in-Ok.ensures.within)
