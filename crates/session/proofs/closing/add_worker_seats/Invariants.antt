use Rattle.std.proofs.Common.{◌≡◌, ◌++◌, List, vec_len}
use Rattle.session.specs.Closing.{AddsSeats, IsSeatOfWorker}
use Rattle.session.specs.Passes.{WorkPassView}
use Rattle.session.proofs.closing.add_worker_seats.Given as goal

abbrev pub invariant-loop-pass : goal.invariant-loop-pass
invariant-loop-pass l =
    (done : List WorkPassView) × (l.fn.passes.items ≡ l.passes.items ++ done) × AddsSeats IsSeatOfWorker done l.fn.seats.items l.seats.items

abbrev pub decreases-loop-pass : goal.decreases-loop-pass
decreases-loop-pass l = vec_len l.passes
