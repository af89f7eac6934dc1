use Rattle.std.proofs.Common.{refl}
use Rattle.spec_core.proofs.Lists.{each-at}
use Rattle.rule_model.specs.Derivations.{derivation_of}
use Rattle.board_core.specs.Views.{program, state, tree}
use Rattle.board_lists.specs.Listings.{MayAct}
use Rattle.board_lists.proofs.list.with_actions.Goals as goal

pub with_action-requires : goal.with_action-requires
with_action-requires c =
    let v = c.args.board.now in
    let those = c.args.those.now in
    record {
      acts =
          each-at (MayAct (program v) (state v) (tree v)) derivation_of those those c.loop-rules.rules-index c.rules-item.result refl
          c.loop-rules-test.true c.rules-item.is c.requires.act;
    }
