use Rattle.std.proofs.Common.{◌∷◌}
use Rattle.session.specs.Closing.{IsSeatOfWorker}
use Rattle.session.proofs.Collecting.{adds_one, one_taken}
use Rattle.session.proofs.Handing.{seat_of_work_pass}
use Rattle.session.proofs.closing.add_worker_seats.Goals as goal

pub loop-pass-preserved : goal.loop-pass-preserved
loop-pass-preserved c =
    let p = c.in-Some.pass in
    let inside = c.pass.inside in
    let i = c.loop-pass.invariant in (
      p ∷ i.0,
      one_taken IsSeatOfWorker c.args.passes.items c.loop-pass.passes.items c.pop.new.self.items i.0 p i.1 c.in-Some.ensures.items,
      adds_one IsSeatOfWorker i.0 c.args.seats.now.items c.loop-pass.seats.items c.push.new.self.items p inside.seat i.2 c.in_ok-push.ensures.items
          (seat_of_work_pass p inside.seat inside.clients inside.taken inside.handed c.pass.view_is c.pass.invariant),
    )
