use Rattle.std.proofs.Common.{arith, ap, ◌∙◌, take, drop, length-drop, List, ℕ}
use Rattle.std.proofs.lemmas.List.{take_rest}
use Rattle.lotos_outside.specs.Sink.{with_more}
use Rattle.lotos_outside.proofs.Written.{with_more-next}
use Rattle.lotos_outside.proofs.sink.write_all.Goals as goal

pub loop-done-preserved : goal.loop-done-preserved
loop-done-preserved g c = record {
  within = omega (arith, c.in_ok-count.ensures.within, length-drop c.loop-done.done c.args.bytes.now, c.loop-done.invariant.within);
  taken =
      c.in_ok-count.ensures.ok
      ∙ ap (λ (l : List ℕ). with_more (take c.in_ok-count.count l) (g.K.Sink.written c.loop-done.sink))
      (take_rest c.args.bytes.now c.loop-done.done)
      ∙ ap (with_more (take c.in_ok-count.count (drop c.loop-done.done c.args.bytes.now))) c.loop-done.invariant.taken
      ∙ with_more-next c.args.bytes.now c.loop-done.done c.in_ok-count.count (g.K.Sink.written c.args.sink.now);
  never_fewer = omega (arith, c.loop-done.invariant.never_fewer, c.write.ensures.never_fewer);
}
