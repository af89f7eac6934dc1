use Rattle.std.proofs.Common.{◌≡◌, ◌++◌, true, rules, subst}
use Rattle.std.proofs.lemmas.Result.{IfOk-weaker}
use Rattle.spec_core.specs.Code.{synchronised_of}
use Rattle.node_trees.specs.Shapes.{shape_of, unary_of}
use Rattle.candidate_composites.specs.Foremost.{StandFirst, gaps_of}
use Rattle.candidate_composites.specs.Known.{sought_in, placed_plans, sought_plans}
use Rattle.candidate_composites.proofs.StandingFirst.{alones, with_more, foremost_alone, foremost_together, at_unsought, at_over, at_choice}
use Rattle.candidate_composites.proofs.StandingFirst.{at_disabling}
use Rattle.candidate_composites.proofs.foremost.+put_foremost.Goals as goal

pub of_two-returns-then-not-first : goal.of_two-returns-then-not-first
of_two-returns-then-not-first t c = λ theory.
    with_more c.put_foremost.new.gaps.items c.args.gaps.now.items
    (sought_plans theory (shape_of c.args.left.now) (sought_in c.args.sought.now))
    (sought_plans theory (shape_of c.args.right.now) (sought_in c.args.sought.now)) c.in_ok-first.first
    (c.in_ok-first.ensures.foremost theory)

pub of_parallel-returns-then-not-first : goal.of_parallel-returns-then-not-first
of_parallel-returns-then-not-first t c = λ theory.
    foremost_alone theory (sought_in c.args.sought.now) (synchronised_of c.args.gates.now) (shape_of c.args.left.now)
    (shape_of c.args.right.now) c.in_ok-first.first c.of_alone.new.gaps.items c.args.gaps.now.items (c.in_ok-first.ensures theory)

pub of_parallel-returns : goal.of_parallel-returns
of_parallel-returns t c =
    let v = sought_in c.args.sought.now in
    let gates = synchronised_of c.args.gates.now in
    let x = shape_of c.args.left.now in
    let y = shape_of c.args.right.now in
    let alone : c.in_ok-first.first ≡ true = search rules in
    IfOk-weaker c.of_left.result _ _
    (λ b h theory. foremost_together theory v gates x y c.of_alone.new.gaps.items c.args.gaps.now.items
    (subst (λ k. StandFirst k c.of_alone.new.gaps.items (gaps_of c.args.gaps.now.items ++ alones theory v gates x y)) alone
    (c.in_ok-first.ensures theory))
    b c.of_left.new.gaps.items (h theory))
    c.of_left.ensures

pub put_foremost-returns-then-not-seeks_some : goal.put_foremost-returns-then-not-seeks_some
put_foremost-returns-then-not-seeks_some t c = record {
  foremost = λ theory. at_unsought (sought_in c.args.sought.now) c.args.gaps.now.items (placed_plans theory (shape_of c.args.branch.now))
      (search rules);
}

pub put_foremost-returns-in_ok-below-in-Over : goal.put_foremost-returns-in_ok-below-in-Over
put_foremost-returns-in_ok-below-in-Over t c = record {
  foremost = IfOk-weaker c.put_foremost.result _ _
      (λ b h theory. at_over theory b c.put_foremost.new.gaps.items c.args.gaps.now.items (shape_of c.args.branch.now)
      (sought_in c.args.sought.now) (unary_of c.in-Over.operator) (shape_of c.deref.result.now) (sought_in c.in_ok-below-in-Over.below)
      (search rules) c.in_ok-below-in-Over.ensures (h theory))
      c.put_foremost.ensures.foremost;
}

pub put_foremost-returns-in-Choice : goal.put_foremost-returns-in-Choice
put_foremost-returns-in-Choice t c = record {
  foremost = IfOk-weaker c.of_two.result _ _
      (λ b h theory. at_choice theory b c.of_two.new.gaps.items c.args.gaps.now.items (shape_of c.args.branch.now)
      (sought_in c.args.sought.now) (shape_of c.deref-in-Choice.result.now) (shape_of c.deref-in-Choice-2.result.now) (search rules)
      (h theory))
      c.of_two.ensures;
}

pub put_foremost-returns-in-Disable : goal.put_foremost-returns-in-Disable
put_foremost-returns-in-Disable t c = record {
  foremost = IfOk-weaker c.of_two-in-Disable.result _ _
      (λ b h theory. at_disabling theory b c.of_two-in-Disable.new.gaps.items c.args.gaps.now.items (shape_of c.args.branch.now)
      (sought_in c.args.sought.now) (shape_of c.deref-in-Disable.result.now) (shape_of c.deref-in-Disable-2.result.now) (search rules)
      (h theory))
      c.of_two-in-Disable.ensures;
}
