use Rattle.std.proofs.Common.{◌≡◌, ◌<◌, ◌∙◌, Ok, OnErr, ap, arith, length, subst, take}
use Rattle.std.proofs.lemmas.List.{length-take}
use Rattle.std.proofs.lemmas.Result.{IfOk-weaker, on_err_weaker}
use Rattle.spec_core.specs.Code.{program_of}
use Rattle.lotos_outside.specs.Counts.{Rose}
use Rattle.command_lines.specs.Inputs.{inlet}
use Rattle.command_lines.proofs.Inputs.{at_end, gave_nothing, gave_zero}
use Rattle.command_sim.specs.Steps.{CutLast, TookLast}
use Rattle.command_sim.proofs.Steps.{failed_cut, last_piece_cut, on_err, piece_cut, piece_failed, piece_last, piece_read}
use Rattle.command_sim.proofs.reading.take_piece.Goals as goal

pub returns-in_err-tell-in-Err-Failed-clause-err : goal.returns-in_err-tell-in-Err-Failed-clause-err
returns-in_err-tell-in-Err-Failed-clause-err g c =
    let before = c.args.input.now in
    let after = c.read.new.self in
    let input = inlet (g.I.Source.rest before) (g.I.Source.rest after) (g.I.Source.faults before) (g.I.Source.faults after) in
    let same = subst (λ r. OnErr r (g.I.Source.rest after ≡ g.I.Source.rest before)) c.in-Err-Failed.is c.read.ensures.err in
    let rose = subst (λ r. OnErr r (Rose (g.I.Source.faults before) (g.I.Source.faults after))) c.in-Err-Failed.is c.read.ensures.failed in
    on_err c.from_residual.result _
    (failed_cut (program_of c.args.vocabulary.now.checked.now) c.args.sim.now c.args.held.now.items c.args.room.now input
    (g.O.Sink.written c.args.out.now) (g.O.Sink.written c.tell.new.out) (gave_nothing (g.I.Source.rest before) (g.I.Source.rest after) same)
    rose c.requires.unended c.in_err-tell-in-Err-Failed.ensures.err)

pub returns-in_ok-tell-in-Err-Failed-clause-ok : goal.returns-in_ok-tell-in-Err-Failed-clause-ok
returns-in_ok-tell-in-Err-Failed-clause-ok g c =
    let before = c.args.input.now in
    let after = c.read.new.self in
    let input = inlet (g.I.Source.rest before) (g.I.Source.rest after) (g.I.Source.faults before) (g.I.Source.faults after) in
    let same = subst (λ r. OnErr r (g.I.Source.rest after ≡ g.I.Source.rest before)) c.in-Err-Failed.is c.read.ensures.err in
    let rose = subst (λ r. OnErr r (Rose (g.I.Source.faults before) (g.I.Source.faults after))) c.in-Err-Failed.is c.read.ensures.failed in
    piece_failed (program_of c.args.vocabulary.now.checked.now) c.args.sim.now c.args.held.now.items c.args.room.now input c.args.sim.now
    c.args.held.now.items c.args.room.now (g.O.Sink.written c.args.out.now) (g.O.Sink.written c.tell.new.out)
    c.in_ok-tell-in-Err-Failed.field-0 c.in_ok-tell-in-Err-Failed.ensures.end
    (gave_nothing (g.I.Source.rest before) (g.I.Source.rest after) same) rose c.requires.unended c.in_ok-tell-in-Err-Failed.ensures.ok

pub returns-in_err-take_last-in-Ok-clause-err : goal.returns-in_err-take_last-in-Ok-clause-err
returns-in_err-take_last-in-Ok-clause-err g c =
    let program = program_of c.args.vocabulary.now.checked.now in
    let first = c.args.input.now in
    let last = c.read.new.self in
    let input = inlet (g.I.Source.rest first) (g.I.Source.rest last) (g.I.Source.faults first) (g.I.Source.faults last) in
    let before = g.O.Sink.written c.args.out.now in
    let after = g.O.Sink.written c.take_last.new.out in
    let gave = gave_zero (g.I.Source.rest first) (g.I.Source.rest last) c.in-Ok.count c.read.new.piece c.if-count-eq0.true c.in-Ok.ensures.ok in
    let ended = c.read.ensures.end (c.in-Ok.is ∙ ap Ok c.if-count-eq0.true) (omega arith) in
    on_err c.from_residual-in_err-take_last-in-Ok.result _
    (last_piece_cut program c.args.sim.now c.args.held.now.items c.args.room.now input before after gave
    (at_end (g.I.Source.rest first) (g.I.Source.rest last) gave ended)
    (subst (λ held. CutLast program c.args.sim.now held before after) c.deref.ensures.value c.in_err-take_last-in-Ok.ensures.err))

pub returns-then-count-eq0-clause-ok : goal.returns-then-count-eq0-clause-ok
returns-then-count-eq0-clause-ok g c =
    let program = program_of c.args.vocabulary.now.checked.now in
    let first = c.args.input.now in
    let last = c.read.new.self in
    let input = inlet (g.I.Source.rest first) (g.I.Source.rest last) (g.I.Source.faults first) (g.I.Source.faults last) in
    let before = g.O.Sink.written c.args.out.now in
    let after = g.O.Sink.written c.take_last.new.out in
    let end = c.in_ok-take_last-in-Ok.field-0 in
    let gave = gave_zero (g.I.Source.rest first) (g.I.Source.rest last) c.in-Ok.count c.read.new.piece c.if-count-eq0.true c.in-Ok.ensures.ok in
    let ended = c.read.ensures.end (c.in-Ok.is ∙ ap Ok c.if-count-eq0.true) (omega arith) in
    piece_last program c.args.sim.now c.args.held.now.items c.args.room.now input c.take_last.new.sim c.args.held.now.items c.args.room.now
    before after end gave (at_end (g.I.Source.rest first) (g.I.Source.rest last) gave ended)
    (subst (λ held. TookLast program c.args.sim.now held before after end) c.deref.ensures.value c.in_ok-take_last-in-Ok.ensures.ok)

pub returns-else-count-eq0-clause-ok : goal.returns-else-count-eq0-clause-ok
returns-else-count-eq0-clause-ok g c =
    let first = c.args.input.now in
    let last = c.read.new.self in
    let input = inlet (g.I.Source.rest first) (g.I.Source.rest last) (g.I.Source.faults first) (g.I.Source.faults last) in
    let bytes = take c.in-Ok.count c.read.new.piece in
    let some : 0 < length bytes = omega (arith, length-take c.in-Ok.count c.read.new.piece, c.if-count-eq0.false, c.read.auto.piece) in
    IfOk-weaker c.take_read.result _ _ (λ ending h. piece_read (program_of c.args.vocabulary.now.checked.now) c.args.sim.now
    c.args.held.now.items c.args.room.now input bytes c.take_read.new.sim c.take_read.new.held.items c.take_read.new.room
    (g.O.Sink.written c.args.out.now) (g.O.Sink.written c.take_read.new.out) ending c.in-Ok.ensures.ok some h) c.take_read.ensures.ok

pub returns-else-count-eq0-clause-err : goal.returns-else-count-eq0-clause-err
returns-else-count-eq0-clause-err g c =
    let first = c.args.input.now in
    let last = c.read.new.self in
    let input = inlet (g.I.Source.rest first) (g.I.Source.rest last) (g.I.Source.faults first) (g.I.Source.faults last) in
    on_err_weaker c.take_read.result (λ h. piece_cut (program_of c.args.vocabulary.now.checked.now) c.args.sim.now c.args.held.now.items
    c.args.room.now input (take c.in-Ok.count c.read.new.piece) (g.O.Sink.written c.args.out.now) (g.O.Sink.written c.take_read.new.out)
    c.in-Ok.ensures.ok h) c.take_read.ensures.err
