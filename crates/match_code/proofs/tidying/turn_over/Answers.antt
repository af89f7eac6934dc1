use Rattle.std.proofs.Common.{◌≡◌, ◌++◌, ◌∷◌, map, reverse, sym, ap, subst, ◌∙◌}
use Rattle.spec_core.specs.Lists.{Each}
use Rattle.spec_core.specs.Theories.{theory_of}
use Rattle.value_nodes.proofs.Nodes.{longer_on}
use Rattle.match_code.specs.States.{IsFrame, waiting_of}
use Rattle.match_code.proofs.States.{same_frames, still_frames, turn_one}
use Rattle.match_code.proofs.tidying.turn_over.Goals as goal

pub loop-turn-preserved : goal.loop-turn-preserved
loop-turn-preserved c =
    let t = theory_of c.args.algebra.now in
    let from = c.args.from.now in
    let before = c.loop-turn.into in
    let after = c.follow_frame.new.into in
    let inv = c.loop-turn.invariant in
    let made = c.in_ok-followed-in-Some.ensures in
    let frame = c.in-Some.frame in
    let turned = c.loop-turn.turned in
    let rest = c.pop.new.self in
    let remaining = subst (Each (IsFrame t from)) c.in-Some.ensures.popped inv.remaining in
    let now : map (waiting_of t after) c.push.new.self ≡ waiting_of t from frame ∷ map (waiting_of t before) turned =
    ap (map (waiting_of t after)) c.in_ok-push-in-Some.ensures.pushed
    ∙ ap (λ w. w ∷ map (waiting_of t after) turned) made.same
    ∙ ap (λ ws. waiting_of t from frame ∷ ws) (same_frames t before after made.longer turned inv.done) in
    record {
      copies = made.copies;
      longer = longer_on c.args.into.now before after inv.longer made.longer;
      remaining = remaining.1;
      done = subst (Each (IsFrame t after)) (sym c.in_ok-push-in-Some.ensures.pushed)
          (made.frame, still_frames t before after made.longer turned inv.done);
      same =
          ap (λ ws. reverse ws ++ map (waiting_of t from) rest) now
          ∙ turn_one (waiting_of t from frame) (map (waiting_of t before) turned) (map (waiting_of t from) rest)
          ∙ ap (λ fs. reverse (map (waiting_of t before) turned) ++ map (waiting_of t from) fs) (sym c.in-Some.ensures.popped)
          ∙ inv.same;
    }
