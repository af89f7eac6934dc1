use Rattle.std.proofs.Common.{rules, ◌≡◌, subst}
use Rattle.std.proofs.lemmas.Result.{on_ok_weaker}
use Rattle.turn_lock.specs.Entries.{made_by}
use Rattle.session_board.specs.Lines.{maker_of}
use Rattle.session_board.specs.Shared.{IsMarked, lines}
use Rattle.session.specs.Passes.{HasHalted}
use Rattle.session.proofs.Seats.{err_more, halts, has_seen_more, isnt_halted, stays_halted}
use Rattle.session.proofs.session.Session.hand_in.Goals as goal

pub returns-clause-none : goal.returns-clause-none
returns-clause-none g c =
    let old = c.args.seat.now in
    let new = c.give.new.seat in
    let v = c.take-held.result.value in
    let w = c.hand_in-handed.new.self in
    let seen : new.seen ≡ lines w = search rules in
    let own : new.own ≡ made_by maker_of old.number (lines w) = search rules in
    has_seen_more old new v w c.take-held.ensures.list seen own c.hand_in-handed.ensures.none

pub returns-clause-still : goal.returns-clause-still
returns-clause-still g c = stays_halted c.args.seat.now.seen c.give.new.seat.seen (returns-clause-none g c).0

pub returns-clause-marked : goal.returns-clause-marked
returns-clause-marked g c =
    let old = c.args.seat.now in
    let new = c.give.new.seat in
    let v = c.take-held.result.value in
    let w = c.hand_in-handed.new.self in
    let seen : new.seen ≡ lines w = search rules in
    let own : new.own ≡ made_by maker_of old.number (lines w) = search rules in
    err_more c.hand_in-handed.result (IsMarked w) (HasHalted new.seen) (halts old new v w c.take-held.ensures.list seen own) c.hand_in-handed.ensures.marked

pub returns-clause-running : goal.returns-clause-running
returns-clause-running g c =
    let w = c.hand_in-handed.new.self in
    let seen : c.give.new.seat.seen ≡ lines w = search rules in
    on_ok_weaker c.hand_in-handed.result (λ unmarked halted. isnt_halted w unmarked (subst HasHalted seen halted))
    c.hand_in-handed.ensures.unmarked

pub returns-clause-wanting : goal.returns-clause-wanting
returns-clause-wanting g c =
    let old = c.args.seat.now in
    let new = c.give.new.seat in
    let v = c.take-held.result.value in
    let w = c.hand_in-handed.new.self in
    let seen : new.seen ≡ lines w = search rules in
    let own : new.own ≡ made_by maker_of old.number (lines w) = search rules in
    err_more c.args.outcome (IsMarked w) (HasHalted new.seen) (halts old new v w c.take-held.ensures.list seen own) c.hand_in-handed.ensures.wanting
