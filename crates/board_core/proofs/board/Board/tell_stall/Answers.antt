use Rattle.std.proofs.Common.{map, refl}
use Rattle.decision_trees.specs.Rules.{stalls}
use Rattle.rule_model.specs.Answering.{name_of}
use Rattle.rule_model.specs.Events.{stalled}
use Rattle.board_offers.specs.Waiting.{by_client}
use Rattle.board_core.specs.Views.{program, events, state}
use Rattle.board_core.proofs.Entries.{by_rules, may_stall, on_ok}
use Rattle.board_core.proofs.board.Board.tell_stall.Goals as goal

pub stall-requires : goal.stall-requires
stall-requires c =
    let v = c.args.self.now in
    let some = c.requires.due.holds.some in
    record {
      may = may_stall (program v) v.session.clients (events v) (state v) c.log_is_a_derivation.ensures.session some.0 some.1;
    }

pub returns-clause-settled : goal.returns-clause-settled
returns-clause-settled c =
    let v = c.args.self.now in
    on_ok c.stall.result
    (λ log possible alone. by_rules v c.stall.new.self stalls c.requires.due c.requires.rules c.requires.stop c.stall.ensures.stop
    (stalled (map name_of (by_client (state v).pending))) refl
    log possible alone.0 (alone.1, alone.2))
    c.stall.ensures.log c.stall.ensures.possible c.stall.ensures.alone
