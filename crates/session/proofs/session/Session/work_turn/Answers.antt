use Rattle.std.proofs.Common.{rules, ◌≡◌, subst}
use Rattle.std.proofs.lemmas.Result.{IfOk-weaker, on_err_weaker, on_ok_weaker}
use Rattle.turn_lock.specs.Entries.{made_by}
use Rattle.session_board.specs.Lines.{maker_of}
use Rattle.session_board.specs.Looks.{ComesOfWork}
use Rattle.session_board.specs.Shared.{fixed_part, lines}
use Rattle.session.specs.Passes.{HasHalted}
use Rattle.session.specs.Sessions.{IsGiven}
use Rattle.session.specs.Working.{ComesOfSeat, OnWork}
use Rattle.session.proofs.Seats.{halts, has_seen_more, isnt_halted, stays_halted}
use Rattle.session.proofs.Working.{comes_of_seat, given_by_work}
use Rattle.session.proofs.session.Session.work_turn.Goals as goal

pub returns-clause-none : goal.returns-clause-none
returns-clause-none g c =
    let old = c.args.seat.now in
    let new = c.give.new.seat in
    let w = c.work-work.new.self in
    let seen : new.seen ≡ lines w = search rules in
    let own : new.own ≡ made_by maker_of old.number (lines w) = search rules in
    has_seen_more old new c.take-held.result.value w c.take-held.ensures.list seen own c.work-work.ensures.none

pub returns-clause-running : goal.returns-clause-running
returns-clause-running g c =
    let w = c.work-work.new.self in
    let seen : c.give.new.seat.seen ≡ lines w = search rules in
    on_ok_weaker c.work-work.result (λ unmarked halted. isnt_halted w unmarked (subst HasHalted seen halted)) c.work-work.ensures.unmarked

pub returns-clause-marked : goal.returns-clause-marked
returns-clause-marked g c =
    let old = c.args.seat.now in
    let new = c.give.new.seat in
    let w = c.work-work.new.self in
    let seen : new.seen ≡ lines w = search rules in
    let own : new.own ≡ made_by maker_of old.number (lines w) = search rules in
    on_err_weaker c.work-work.result (halts old new c.take-held.result.value w c.take-held.ensures.list seen own) c.work-work.ensures.marked

pub returns-clause-still : goal.returns-clause-still
returns-clause-still g c = stays_halted c.args.seat.now.seen c.give.new.seat.seen (returns-clause-none g c).0

pub returns-clause-work : goal.returns-clause-work
returns-clause-work g c =
    let v = c.take-held.result.value in
    let w = c.work-work.new.self in
    let clients = c.args.self.now.lock.fixed.clients in
    let old = c.args.seat.now.seen in
    let new = c.give.new.seat.seen in
    let seen : new ≡ lines w = search rules in
    let same : w.board.session.clients ≡ clients = search rules in
    IfOk-weaker c.work-work.result (ComesOfWork v w) (ComesOfSeat clients old new)
    (λ found. comes_of_seat clients old new v w found c.take-held.ensures.list.0 seen same) c.work-work.ensures.work

pub returns-clause-given : goal.returns-clause-given
returns-clause-given g c =
    let v = c.take-held.result.value in
    let w = c.work-work.new.self in
    let s = c.args.self.now in
    let same : fixed_part v ≡ s.lock.fixed = search rules in
    IfOk-weaker c.work-work.result (ComesOfWork v w) (OnWork (IsGiven s)) (given_by_work s v w same) c.work-work.ensures.work
