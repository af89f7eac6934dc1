use Rattle.std.proofs.Common.{subst, take}
use Rattle.spec_core.specs.Code.{program_of}
use Rattle.command_sim.specs.Steps.{TookBytes}
use Rattle.command_sim.proofs.Steps.{limit_cut, on_err, read_cut, read_ends, read_limited}
use Rattle.command_sim.proofs.reading.take_read.Goals as goal

pub returns-in_err-end-clause-err : goal.returns-in_err-end-clause-err
returns-in_err-end-clause-err g c =
    on_err c.from_residual.result _
    (read_cut (program_of c.args.vocabulary.now.checked.now) c.args.sim.now c.args.held.now.items c.args.bytes.now c.args.room.now
    c.min-within.result c.min-within.ensures c.requires.few (g.O.Sink.written c.args.out.now) (g.O.Sink.written c.take_bytes.new.out)
    c.in_err-end.ensures.err)

pub returns-in-Some-clause-ok : goal.returns-in-Some-clause-ok
returns-in-Some-clause-ok g c =
    let program = program_of c.args.vocabulary.now.checked.now in
    let held = c.args.held.now.items in
    let bytes = c.args.bytes.now in
    let n = c.min-within.result in
    let before = g.O.Sink.written c.args.out.now in
    let after = g.O.Sink.written c.take_bytes.new.out in
    let left = c.take_bytes.new.held.items in
    read_ends program c.args.sim.now held bytes c.args.room.now n c.min-within.ensures c.requires.few c.take_bytes.new.sim left c.args.room.now
    before after c.in-Some.end
    (subst (TookBytes program c.args.sim.now held (take n bytes) before c.take_bytes.new.sim left after) c.in-Some.is c.in_ok-end.ensures.ok)

pub returns-in_err-tell-clause-err : goal.returns-in_err-tell-clause-err
returns-in_err-tell-clause-err g c =
    let program = program_of c.args.vocabulary.now.checked.now in
    let held = c.args.held.now.items in
    let bytes = c.args.bytes.now in
    let n = c.min-within.result in
    let before = g.O.Sink.written c.args.out.now in
    let middle = g.O.Sink.written c.take_bytes.new.out in
    let left = c.take_bytes.new.held.items in
    on_err c.from_residual-in_err-tell.result _
    (limit_cut program c.args.sim.now held bytes c.args.room.now n c.min-within.ensures c.requires.few c.if-bytes-room.true
    c.take_bytes.new.sim left before middle (g.O.Sink.written c.tell.new.out)
    (subst (TookBytes program c.args.sim.now held (take n bytes) before c.take_bytes.new.sim left middle) c.in_default.is c.in_ok-end.ensures.ok)
    c.in_err-tell.ensures.err)

pub returns-then-bytes-room-clause-ok : goal.returns-then-bytes-room-clause-ok
returns-then-bytes-room-clause-ok g c =
    let program = program_of c.args.vocabulary.now.checked.now in
    let held = c.args.held.now.items in
    let bytes = c.args.bytes.now in
    let n = c.min-within.result in
    let before = g.O.Sink.written c.args.out.now in
    let middle = g.O.Sink.written c.take_bytes.new.out in
    let left = c.take_bytes.new.held.items in
    read_limited program c.args.sim.now held bytes c.args.room.now n c.min-within.ensures c.requires.few c.if-bytes-room.true
    c.take_bytes.new.sim c.take_bytes.new.sim left left c.args.room.now before middle (g.O.Sink.written c.tell.new.out)
    c.in_ok-tell.field-0 c.in_ok-tell.ensures.end
    (subst (TookBytes program c.args.sim.now held (take n bytes) before c.take_bytes.new.sim left middle) c.in_default.is c.in_ok-end.ensures.ok)
    c.in_ok-tell.ensures.ok
