use Rattle.std.proofs.Common.{◌+◌, ◌∙◌, ◌∷◌, [], ◌++◌, None, Some, ap, arith, drop, subst, take}
use Rattle.std.proofs.Math.ListN.{get_or}
use Rattle.std.proofs.lemmas.List.{take-append-drop}
use Rattle.spec_core.specs.Code.{program_of}
use Rattle.command_sim.specs.Steps.{CutBytes, TookBytes}
use Rattle.command_sim.proofs.Steps.{cut_both, cut_front, next_byte, on_err, took_both, took_front, took_unended}
use Rattle.command_sim.proofs.answering.take_bytes.Goals as goal

pub returns-in_err-end-clause-err : goal.returns-in_err-end-clause-err
returns-in_err-end-clause-err g c =
    let program = program_of c.args.vocabulary.now.checked.now in
    let bytes = c.args.bytes.now in
    let i = c.loop-byte.byte-index in
    let b = get_or bytes i 0 in
    let before = g.O.Sink.written c.args.out.now in
    let after = g.O.Sink.written c.take_byte.new.out in
    let cut = cut_both program c.args.sim.now c.loop-byte.sim c.args.held.now.items (take i bytes) (b ∷ []) c.loop-byte.held.items before
    (g.O.Sink.written c.loop-byte.out) after c.loop-byte.invariant.took c.in_err-end.ensures.err in
    let parts = ap (λ l. l ++ drop (i + 1) bytes) (next_byte bytes i c.loop-byte-test.true) ∙ take-append-drop (i + 1) bytes in
    on_err c.from_residual.result _
    (subst (λ l. CutBytes program c.args.sim.now c.args.held.now.items l before after) parts
    (cut_front program c.args.sim.now c.args.held.now.items (take i bytes ++ b ∷ []) (drop (i + 1) bytes) before after cut))

pub returns-in-Some-clause-ok : goal.returns-in-Some-clause-ok
returns-in-Some-clause-ok g c =
    let program = program_of c.args.vocabulary.now.checked.now in
    let bytes = c.args.bytes.now in
    let i = c.loop-byte.byte-index in
    let b = get_or bytes i 0 in
    let before = g.O.Sink.written c.args.out.now in
    let middle = g.O.Sink.written c.loop-byte.out in
    let after = g.O.Sink.written c.take_byte.new.out in
    let left = c.take_byte.new.held.items in
    let one = subst (TookBytes program c.loop-byte.sim c.loop-byte.held.items (b ∷ []) middle c.take_byte.new.sim left after) c.in-Some.is
    c.in_ok-end.ensures.ok in
    let took = took_both program c.args.sim.now c.loop-byte.sim c.take_byte.new.sim c.args.held.now.items (take i bytes) (b ∷ [])
    c.loop-byte.held.items left before middle after (Some c.in-Some.end) c.loop-byte.invariant.took one in
    let parts = ap (λ l. l ++ drop (i + 1) bytes) (next_byte bytes i c.loop-byte-test.true) ∙ take-append-drop (i + 1) bytes in
    subst (λ l. TookBytes program c.args.sim.now c.args.held.now.items l before c.take_byte.new.sim left after (Some c.in-Some.end)) parts
    (took_front program c.args.sim.now c.take_byte.new.sim c.args.held.now.items (take i bytes ++ b ∷ []) (drop (i + 1) bytes) left before after
    c.in-Some.end took)

pub loop-byte-preserved : goal.loop-byte-preserved
loop-byte-preserved g c =
    let program = program_of c.args.vocabulary.now.checked.now in
    let bytes = c.args.bytes.now in
    let i = c.loop-byte.byte-index in
    let b = get_or bytes i 0 in
    let before = g.O.Sink.written c.args.out.now in
    let middle = g.O.Sink.written c.loop-byte.out in
    let after = g.O.Sink.written c.take_byte.new.out in
    let left = c.take_byte.new.held.items in
    let one = subst (TookBytes program c.loop-byte.sim c.loop-byte.held.items (b ∷ []) middle c.take_byte.new.sim left after) c.in_default.is
    c.in_ok-end.ensures.ok in
    let took = took_both program c.args.sim.now c.loop-byte.sim c.take_byte.new.sim c.args.held.now.items (take i bytes) (b ∷ [])
    c.loop-byte.held.items left before middle after None c.loop-byte.invariant.took one in
    record {
      took = subst (λ l. TookBytes program c.args.sim.now c.args.held.now.items l before c.take_byte.new.sim left after None)
          (next_byte bytes i c.loop-byte-test.true) took;
      unended = took_unended program c.loop-byte.sim c.take_byte.new.sim c.loop-byte.held.items (b ∷ []) left middle after one;
      never_fewer = omega (arith, c.loop-byte.invariant.never_fewer, c.take_byte.ensures.never_fewer);
    }
