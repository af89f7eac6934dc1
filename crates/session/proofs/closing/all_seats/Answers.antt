use Rattle.session.proofs.Collecting as collecting
use Rattle.session.proofs.closing.all_seats.Goals as goal

pub returns : goal.returns
returns c = record {
  seats =
      collecting.all_seats c.args.passes.items c.args.workers.items c.args.keeper c.new-seats.result.items
      c.add_client_seats.new.seats.items c.add_worker_seats.new.seats.items c.push.new.self.items c.new-seats.ensures.items
      c.in_ok-add_client_seats.ensures.seats c.in_ok-add_worker_seats.ensures.seats c.in_ok-push.ensures.items;
}
