use Rattle.std.proofs.Common.{◌∙◌, map, sym, subst}
use Rattle.spec_core.specs.Theories.{theory_of}
use Rattle.value_nodes.proofs.Nodes.{same_trees, still_nodes}
use Rattle.rewriter.proofs.Following.{copied_small, copied_own}
use Rattle.value_nodes.specs.Nodes.{tree_at}
use Rattle.rewriter.specs.Machine.{AreCounted}
use Rattle.rewriter.specs.Steps.{task_of}
use Rattle.rewriter.proofs.compaction.compact.Goals as goal

pub returns-clause-ready : goal.returns-clause-ready
returns-clause-ready c = λ uses ready.
    let t = theory_of c.args.algebra.now in
    let tasks = c.in_ok-follow-2.ensures.same t in
    let trees = same_trees c.follow.new.into c.follow-2.new.into c.in_ok-follow-2.ensures.longer c.follow.new.self
    c.in_ok-follow.ensures.there ∙ c.in_ok-follow.ensures.same in
    record {
      steps = c.in_ok-follow-2.ensures.steps t ready.steps;
      values = still_nodes c.follow.new.into c.follow-2.new.into c.in_ok-follow-2.ensures.longer c.follow.new.self
          c.in_ok-follow.ensures.there;
      own = copied_own t c.args.nodes.now c.follow-2.new.into c.in_ok-follow-2.ensures.copies.no_other ready.own;
      small = copied_small c.args.nodes.now c.follow-2.new.into c.in_ok-follow-2.ensures.copies.no_other ready.small;
      counted = subst (λ ts. AreCounted t uses ts (map (tree_at c.follow-2.new.into) c.follow.new.self)) (sym tasks)
          (subst (AreCounted t uses (map (task_of t c.args.nodes.now) c.args.todo.now)) (sym trees) ready.counted);
    }

pub returns-clause-tasks : goal.returns-clause-tasks
returns-clause-tasks c = c.in_ok-follow-2.ensures.same (theory_of c.args.algebra.now)

pub returns-clause-values : goal.returns-clause-values
returns-clause-values c =
    same_trees c.follow.new.into c.follow-2.new.into c.in_ok-follow-2.ensures.longer c.follow.new.self c.in_ok-follow.ensures.there
    ∙ c.in_ok-follow.ensures.same
