use Rattle.std.proofs.Common.{Some, subst, sym}
use Rattle.rule_model.specs.declared.action.Action.{Action}
use Rattle.rule_model.specs.Legal.{IsAgreed}
use Rattle.board_core.specs.Views.{program, state}
use Rattle.rule_laws.specs.Spelled.{HasSpelled}
use Rattle.simulator_steps.proofs.Stepping.{agrees, gives_values}
use Rattle.simulator_steps.proofs.choosing.offered.Goals as goal

pub pend-requires-clause-values : goal.pend-requires-clause-values
pend-requires-clause-values c =
    let theory = (program c.args.board.now).theory in
    gives_values theory c.in-At.gate c.in-At.values c.in_ok-offer-in-At.offer c.in_ok-offer-in-At.ensures
    (subst (HasSpelled theory) c.in-At.is c.requires.values)

pub returns-in_ok-number-in-At-clause-agreed : goal.returns-in_ok-number-in-At-clause-agreed
returns-in_ok-number-in-At-clause-agreed c =
    let n = c.in_ok-number-in-At.number in
    let new = c.pend.new.board in
    subst (λ (a : Action). IsAgreed (program new) (state new) a (Some (1, n))) (sym c.in-At.is)
    (agrees (program new) (state c.args.board.now) (state new) n c.in-At.gate c.in-At.values c.in_ok-offer-in-At.offer
    c.in_ok-offer-in-At.ensures c.requires.rests.1 c.in_ok-number-in-At.ensures.state)
