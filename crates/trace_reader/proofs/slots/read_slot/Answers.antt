use Rattle.spec_core.specs.Code.{program_of}
use Rattle.trace_reader.proofs.Valued.{slot_marked}
use Rattle.trace_reader.proofs.slots.read_slot.Goals as goal

pub returns-then-takes-clause-finds : goal.returns-then-takes-clause-finds
returns-then-takes-clause-finds c x rest fits ends e =
    slot_marked (program_of c.args.vocabulary.now.checked.now) c.requires.readable.fits c.requires.readable.named x rest c.args.cursor.now
    c.takes.new.self c.takes.result fits c.takes.ensures c.if-takes.true e
