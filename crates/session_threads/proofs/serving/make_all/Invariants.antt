use Rattle.std.proofs.Common.{◌≡◌, ◌++◌, map, take}
use Rattle.rule_model.specs.WishViews.{wish_of}
use Rattle.session.specs.Passes.{HasLeft, SamePass}
use Rattle.session_threads.specs.Rows.{wishes_made}
use Rattle.session_threads.proofs.serving.make_all.Given as goal

abbrev pub invariant-loop-wish : goal.invariant-loop-wish
invariant-loop-wish g l = record {
  same : SamePass l.fn.pass l.pass;
  stays : HasLeft l.pass → ⊥;
  made : wishes_made l.pass ≡ wishes_made l.fn.pass ++ map wish_of (take l.wish-index l.wishes);
}
