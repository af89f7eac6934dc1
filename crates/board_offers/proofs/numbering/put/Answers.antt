use Rattle.std.proofs.Common.{rules, map}
use Rattle.log_states.specs.Views.{pending_of}
use Rattle.board_offers.specs.Offers.{offer_at}
use Rattle.board_offers.proofs.Places.{put_among}
use Rattle.board_offers.proofs.numbering.put.Goals as goal

pub returns-clause-among : goal.returns-clause-among
returns-clause-among c =
    put_among (offer_at (map pending_of c.args.all.now)) c.args.number c.client_of.result c.place-before.result c.args.numbers.now.items _
    (search rules) (search rules) c.client_of.ensures
