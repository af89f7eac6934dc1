use Rattle.std.proofs.Common.{rules, ◌<◌, length, ◌∙◌, arith}
use Rattle.spec_core.specs.Theories.{theory_of}
use Rattle.rewriter.specs.Calls.{arguments_of}
use Rattle.rewriter.proofs.Calls.{skip_more, counted}
use Rattle.rewriter.proofs.call.find.Goals as goal

pub loop-place-preserved : goal.loop-place-preserved
loop-place-preserved c =
    let t = theory_of c.args.algebra.now in
    let few : c.loop-place.place < length c.args.algebra.now.equations.items = search rules in
    let h : c.loop-place.place < length (theory_of c.args.algebra.now).equations = omega (arith, few, counted c.args.algebra.now) in
    let hd = c.loop-place.invariant.headed h in
    record {
      room = c.fits.ensures.room ∙ c.loop-place.invariant.room;
      onward = omega (arith, c.loop-place.invariant.onward, c.after-place.ensures.onward);
      headed = λ l. c.after-place.ensures.heads c.args.op.0 l hd;
      skipped = skip_more t c.requires.executable c.args.op.0
          (arguments_of c.args.nodes.now c.args.count c.args.values.now) c.args.from c.loop-place.place c.after-place.result hd
          c.loop-place.invariant.skipped (c.fits.ensures.no c.if-fits.false)
          (λ j a b m he. c.after-place.ensures.skipped c.args.op.0 j a b m hd he);
    }
