use Rattle.std.proofs.Common.{Some, ap}
use Rattle.rule_model.specs.Derivations.{derivation_of}
use Rattle.rule_model.specs.Events.{OfferName, acted}
use Rattle.decision_trees.specs.Rules.{takes}
use Rattle.board_offers.specs.Offers.{offer_at}
use Rattle.board_core.specs.Views.{state}
use Rattle.board_core.proofs.Entries.{acts, on_ok_both}
use Rattle.board_core.proofs.board.Board.take.Goals as goal

pub returns-clause-settled : goal.returns-clause-settled
returns-clause-settled c =
    let s = state c.args.self.now in
    let p = offer_at s.pending c.args.number in
    let d = derivation_of c.args.rules in
    let name = c.offer_name-name.result in
    on_ok_both c.act.result
    (acts c.args.self.now c.act.new.self (takes p d) c.requires.due c.requires.rules c.requires.stop c.act.ensures.stop d (Some name)
    (λ a. (c.requires.below, a, ap (λ (n : OfferName). acted a d (Some n)) c.offer_name-name.ensures)))
    c.act.ensures.acted c.act.ensures.stepped
