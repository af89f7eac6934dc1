use Rattle.std.proofs.Common.{subst}
use Rattle.simulator_steps.specs.Choosing.{ComesOfChoice}
use Rattle.simulator.proofs.Lines.{never_missing}
use Rattle.simulator.proofs.answering.do_step.Goals as goal

pub unreachable-requires : goal.unreachable-requires
unreachable-requires c =
    let old = c.args.board.now in
    let new = c.choose.new.board in
    never_missing old new c.log_is_a_derivation.ensures.ready c.args.last c.args.number c.requires.counts c.requires.has
    (subst (ComesOfChoice old new c.args.number) c.in-Missing.is c.in_ok-action.ensures.choice)
