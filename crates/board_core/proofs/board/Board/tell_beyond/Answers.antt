use Rattle.std.proofs.Common.{ap}
use Rattle.rule_model.specs.Answering.{name_of}
use Rattle.rule_model.specs.Answers.{beyond}
use Rattle.rule_model.specs.Derivations.{derivation_of}
use Rattle.rule_model.specs.Events.{replied}
use Rattle.decision_trees.specs.Rules.{is_beyond}
use Rattle.board_offers.specs.Offers.{offer_at}
use Rattle.board_core.specs.Views.{state}
use Rattle.board_core.proofs.Entries.{by_rules, named, on_ok, same_reply}
use Rattle.board_core.proofs.board.Board.tell_beyond.Goals as goal

pub reply-requires-clause-pending : goal.reply-requires-clause-pending
reply-requires-clause-pending c =
    let s = state c.args.self.now in
    named s (offer_at s.pending c.args.number) c.offer_name-name.result c.offer_name-name.ensures c.requires.due.holds.pending

pub returns-clause-settled : goal.returns-clause-settled
returns-clause-settled c =
    let s = state c.args.self.now in
    let p = offer_at s.pending c.args.number in
    let d = derivation_of c.args.rules in
    let name = c.offer_name-name.result in
    let at = c.actions-at.result in
    on_ok c.reply.result
    (λ log possible alone. by_rules c.args.self.now c.reply.new.self (is_beyond p d) c.requires.due c.requires.rules c.requires.stop c.reply.ensures.stop
    (replied name.0 name.1 (beyond at d))
    (same_reply name (name_of p) (beyond at d) (beyond s.actions d) c.offer_name-name.ensures (ap (λ n. beyond n d) c.actions-at.ensures))
    log possible alone.0 (alone.1, alone.2))
    c.reply.ensures.log c.reply.ensures.possible c.reply.ensures.alone
