use Rattle.std.proofs.Common.{refl, subst}
use Rattle.script_text.specs.Wishes.{wished_of}
use Rattle.simulator_steps.specs.Asking.{KeepsBehaviour}
use Rattle.simulator.specs.Offering.{ComesOfOffer}
use Rattle.simulator.proofs.Lines.{counts_stay}
use Rattle.simulator.proofs.answering.make_offer.Goals as goal

pub returns-in-Done-clause-answer : goal.returns-in-Done-clause-answer
returns-in-Done-clause-answer c = (
  subst (ComesOfOffer c.args.board.now c.offer.new.board (wished_of c.args.wish.now)) c.in-Done.is c.in_ok-action.ensures.offer,
  refl,
)

pub returns-in-Told-clause-answer : goal.returns-in-Told-clause-answer
returns-in-Told-clause-answer c = (
  subst (ComesOfOffer c.args.board.now c.offer.new.board (wished_of c.args.wish.now)) c.in-Told.is c.in_ok-action.ensures.offer,
  refl,
)

pub returns-in-Told-clause-counts : goal.returns-in-Told-clause-counts
returns-in-Told-clause-counts c =
    let old = c.args.board.now in
    let new = c.offer.new.board in
    let h = c.in_ok-action.ensures in
    counts_stay old new h.setting (subst (KeepsBehaviour old new) c.in-Told.is h.behaviour) c.args.last c.requires.counts
