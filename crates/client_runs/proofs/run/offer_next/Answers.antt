use Rattle.std.proofs.Common.{◌∙◌, subst, sym}
use Rattle.spec_core.specs.Code.{program_of}
use Rattle.rule_model.specs.WishViews.{wish_of}
use Rattle.board_record.specs.Faults.{ExplainsPend}
use Rattle.board_laws.specs.JobValues.{GivesValues}
use Rattle.board_core.specs.Views.{program, state}
use Rattle.client_runs.proofs.Running.{offered}
use Rattle.client_runs.proofs.Settled.{idle_on}
use Rattle.client_runs.proofs.run.offer_next.Goals as goal

pub pend-requires : goal.pend-requires
pend-requires c = record {
  values =
      subst (λ k. GivesValues (program_of k).theory c.args.wish.now.offer) (sym c.in_ok-settle_all.ensures.session.0.0.0)
      c.requires.values;
}

pub unreachable-requires-in-Err-AlreadyPending : goal.unreachable-requires-in-Err-AlreadyPending
unreachable-requires-in-Err-AlreadyPending c =
    let m = c.settle_all.new.board in
    let h = c.in_ok-settle_all.ensures in
    let fault =
    subst (ExplainsPend (program m) (state m) 1 c.args.wish.now.offer) c.in-Err-AlreadyPending.field-0-is c.in-Err-AlreadyPending.ensures.fault
    in
    idle_on m c.log_is_a_derivation.ensures.ready h.settled (h.session.1 ∙ c.requires.open) fault.1

pub returns-in-Ok-clause-offered : goal.returns-in-Ok-clause-offered
returns-in-Ok-clause-offered c =
    let m = c.settle_all.new.board in
    let h = c.in_ok-settle_all.ensures in
    let p = c.in-Ok.ensures in
    λ start made run.
    offered m c.pend.new.self p.setting h.settled p.stop c.in-Ok.field-0 (wish_of c.args.wish.now) p.may p.log p.state start made
    (h.continues start made run)
