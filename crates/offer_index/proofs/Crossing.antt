-- An index may go to other threads.
use denote.Param.Send.{IsSend, recorded_send, struct_send, view_send}
use denote.Struct.Declared as struct
use Rattle.offer_index.specs.contracts.index.OfferIndex as index
use Rattle.offer_index.specs.contracts.index.OfferIndex.TheInside as index_inside
use Rattle.spec_core.proofs.Crossing.{simple}
use Rattle.symbolic_plans.proofs.Crossing.{composite_send}

pub index_send : IsSend index.the_row
index_send =
    view_send index_inside.the_row _ _ _ _ (recorded_send (index_inside.the_field).row _ _ (index_inside.the_type).to_one
    (struct_send (struct.shape index_inside.the_type) (
      search simple depth 60 fits 20000,
      (
        search (composite_send, simple) depth 60 fits 20000,
        tt,
      ),
    )))
