use Rattle.std.proofs.Common.{rules, ◌≡◌, ◌∙◌, subst}
use Rattle.std.proofs.lemmas.Result.{IfOk-weaker, on_ok_weaker}
use Rattle.turn_lock.specs.Entries.{made_by}
use Rattle.session_board.specs.Lines.{maker_of}
use Rattle.session_board.specs.Shared.{IsMarked, fixed_part, lines}
use Rattle.session.specs.Passes.{HasHalted}
use Rattle.session.proofs.Seats.{err_more, halts, has_seen_more, isnt_halted}
use Rattle.session.proofs.Working.{given_by_look}
use Rattle.session.proofs.session.Session.look.Goals as goal

pub returns-clause-none : goal.returns-clause-none
returns-clause-none g c =
    let old = c.args.seat.now in
    let new = c.give.new.seat in
    let v = c.take-held.result.value in
    let w = c.look_along-look.new.self in
    let seen : new.seen ≡ lines w = search rules in
    let own : new.own ≡ made_by maker_of old.number (lines w) = search rules in
    has_seen_more old new v w c.take-held.ensures.list seen own c.look_along-look.ensures.none

pub returns-clause-running : goal.returns-clause-running
returns-clause-running g c =
    let w = c.look_along-look.new.self in
    let seen : c.give.new.seat.seen ≡ lines w = search rules in
    on_ok_weaker c.look_along-look.result (λ unmarked halted. isnt_halted w unmarked (subst HasHalted seen halted)) c.look_along-look.ensures.unmarked

pub returns-clause-marked : goal.returns-clause-marked
returns-clause-marked g c =
    let old = c.args.seat.now in
    let new = c.give.new.seat in
    let v = c.take-held.result.value in
    let w = c.look_along-look.new.self in
    let seen : new.seen ≡ lines w = search rules in
    let own : new.own ≡ made_by maker_of old.number (lines w) = search rules in
    err_more c.look_along-look.result (IsMarked w) (HasHalted new.seen) (halts old new v w c.take-held.ensures.list seen own) c.look_along-look.ensures.marked

pub returns-clause-given : goal.returns-clause-given
returns-clause-given g c =
    let v = c.take-held.result.value in
    let w = c.look_along-look.new.self in
    let s = c.args.self.now in
    let same : fixed_part v ≡ s.lock.fixed = search rules in
    IfOk-weaker c.look_along-look.result _ _ (λ r h. given_by_look s h.0 w (h.2 ∙ same) c.args.name h.1 r.1 h.3) c.look_along-look.ensures.step
