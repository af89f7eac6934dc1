-- The tree of a board may go to other threads.
use denote.Param.Send.{IsSend, recorded_send, struct_send, view_send}
use denote.Struct.Declared as struct
use Rattle.board_tree.proofs.change.Change.TheLaws.TheKnot as change
use Rattle.board_tree.specs.contracts.change.Change as change_row
use Rattle.board_tree.specs.contracts.ready.Ready as ready
use Rattle.board_tree.specs.contracts.tree.Tree as tree
use Rattle.board_tree.specs.contracts.tree.Tree.TheInside as tree_inside
use Rattle.spec_core.proofs.Crossing.{simple}
use Rattle.node_trees.proofs.Crossing.{branch_send}

pub change_send : IsSend (change_row.the_field).row
change_send = search (branch_send, change.crosses, simple) depth 60 fits 20000

pub ready_send : IsSend ready.the_row
ready_send = search (change_send, simple) depth 60 fits 20000

pub tree_send : IsSend tree.the_row
tree_send =
    view_send tree_inside.the_row _ _ _ _ (recorded_send (tree_inside.the_field).row _ _ (tree_inside.the_type).to_one
    (struct_send (struct.shape tree_inside.the_type) (
      branch_send,
      (
        search simple depth 60 fits 20000,
        (
          search simple depth 60 fits 20000,
          (
            search simple depth 60 fits 20000,
            (
              search (ready_send, simple) depth 60 fits 20000,
              tt,
            ),
          ),
        ),
      ),
    )))
