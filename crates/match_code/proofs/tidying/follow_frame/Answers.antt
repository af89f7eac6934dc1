use Rattle.std.proofs.Common.{◌≡◌, map, ap, ◌∙◌}
use Rattle.spec_core.specs.Theories.{theory_of}
use Rattle.value_nodes.specs.Nodes.{tree_at}
use Rattle.value_nodes.proofs.Nodes.{same_trees, still_nodes}
use Rattle.rewriter.specs.Steps.{task_of}
use Rattle.rewriter.proofs.Calls.{same_tasks, still_steps}
use Rattle.rewriter.proofs.Following.{all_held}
use Rattle.match_code.proofs.States.{with_parts}
use Rattle.match_code.proofs.tidying.follow_frame.Goals as goal

pub returns-clause-frame : goal.returns-clause-frame
returns-clause-frame c =
    let t = theory_of c.args.algebra.now in
    let one = c.follow.new.into in
    let two = c.follow-2.new.into in
    let three = c.follow-3.new.into in
    record {
      args = still_nodes two three c.in_ok-follow-3.ensures.longer c.follow.new.self
          (still_nodes one two c.in_ok-follow-2.ensures.longer c.follow.new.self c.in_ok-follow.ensures.there);
      steps = still_steps t two three c.in_ok-follow-3.ensures.longer c.follow-2.new.self
          (c.in_ok-follow-2.ensures.steps t c.requires.frame.steps);
      values = c.in_ok-follow-3.ensures.there;
    }

pub returns-clause-same : goal.returns-clause-same
returns-clause-same c =
    let t = theory_of c.args.algebra.now in
    let one = c.follow.new.into in
    let two = c.follow-2.new.into in
    let three = c.follow-3.new.into in
    let frame = c.args.frame in
    let args : map (tree_at three) c.follow.new.self ≡ map (tree_at c.args.from.now) frame.args =
    same_trees two three c.in_ok-follow-3.ensures.longer c.follow.new.self
    (still_nodes one two c.in_ok-follow-2.ensures.longer c.follow.new.self c.in_ok-follow.ensures.there)
    ∙ same_trees one two c.in_ok-follow-2.ensures.longer c.follow.new.self c.in_ok-follow.ensures.there
    ∙ c.in_ok-follow.ensures.same in
    let steps : map (task_of t three) c.follow-2.new.self ≡ map (task_of t c.args.from.now) frame.todo =
    same_tasks t two three c.in_ok-follow-3.ensures.longer c.follow-2.new.self
    (all_held t two c.follow-2.new.self (c.in_ok-follow-2.ensures.steps t c.requires.frame.steps))
    ∙ c.in_ok-follow-2.ensures.same t in
    ap (λ x. with_parts t frame x (map (task_of t three) c.follow-2.new.self) (map (tree_at three) c.follow-3.new.self)) args
    ∙ ap (λ x. with_parts t frame (map (tree_at c.args.from.now) frame.args) x (map (tree_at three) c.follow-3.new.self)) steps
    ∙ ap (λ x. with_parts t frame (map (tree_at c.args.from.now) frame.args) (map (task_of t c.args.from.now) frame.todo) x)
    c.in_ok-follow-3.ensures.same
