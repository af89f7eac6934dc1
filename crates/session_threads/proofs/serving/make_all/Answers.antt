use Rattle.std.proofs.Common.{◌∙◌}
use Rattle.session_threads.specs.Rows.{wishes_made}
use Rattle.session_threads.proofs.Wishing.{made_more, wish_fits}
use Rattle.session_threads.proofs.serving.make_all.Goals as goal

pub make-requires-clause-gate : goal.make-requires-clause-gate
make-requires-clause-gate g c =
    wish_fits c.args.session.now c.args.wishes.now c.loop-wish.wish-index c.wish-item.result c.requires.gates c.loop-wish-test.true c.wish-item.is

pub loop-wish-preserved : goal.loop-wish-preserved
loop-wish-preserved g c =
    let was = c.loop-wish.invariant in
    record {
      same = (c.make.ensures.same.0 ∙ was.same.0, c.make.ensures.same.1 ∙ was.same.1);
      stays = c.in_ok-make.ensures.stays;
      made =
          made_more c.args.wishes.now c.loop-wish.wish-index c.wish-item.result (wishes_made c.args.pass.now) (wishes_made c.loop-wish.pass)
          (wishes_made c.make.new.pass) c.loop-wish-test.true c.wish-item.is was.made c.in_ok-make.ensures.made;
    }
