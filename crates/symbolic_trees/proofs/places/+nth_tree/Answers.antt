use Rattle.std.proofs.Common.{map}
use Rattle.std.specs.Prelude.{option_map}
use Rattle.std.proofs.lemmas.Result.{IfOk-weaker}
use Rattle.spec_core.specs.Theories.{theory_of}
use Rattle.rule_model.specs.Derivations.{derivation_of, both}
use Rattle.symbolic_plans.specs.Plans.{field_of, plan_of, trees_of}
use Rattle.symbolic_rules.specs.Tables.{windows_in}
use Rattle.symbolic_trees.proofs.Fronts.{no_fronts, no_first, no_rest, both_parts}
use Rattle.symbolic_trees.proofs.Trees.{at_none, no_trees, no_way, by_way, none_under, some_under}
use Rattle.symbolic_trees.proofs.places.+nth_tree.Goals as goal

pub nth_at_once-returns-in-None : goal.nth_at_once-returns-in-None
nth_at_once-returns-in-None t c = record {
  tree = at_none (theory_of c.args.algebra.now) (windows_in c.args.windows.now) (map field_of c.args.columns.now) (plan_of c.args.part.now)
      c.args.choices.now c.args.n (rw c.in-None.is at c.in_ok-nth_way.ensures.way);
}

pub nth_at_once-returns-then-each-eq0 : goal.nth_at_once-returns-then-each-eq0
nth_at_once-returns-then-each-eq0 t c = record {
  tree = no_trees (theory_of c.args.algebra.now) (windows_in c.args.windows.now) (map field_of c.args.columns.now) (plan_of c.args.part.now)
      c.args.choices.now c.in-Some.first.items c.in_ok-each-in-Some.each c.args.n (rw c.in-Some.is at c.in_ok-nth_way.ensures.way)
      (rw c.deref.ensures.value at c.in_ok-each-in-Some.ensures.counted) c.requires.small c.if-each-eq0.true;
}

pub nth_at_once-returns-in-None-2 : goal.nth_at_once-returns-in-None-2
nth_at_once-returns-in-None-2 t c = record {
  tree = no_way (theory_of c.args.algebra.now) (windows_in c.args.windows.now) (map field_of c.args.columns.now) (plan_of c.args.part.now)
      c.args.choices.now c.in-Some.first.items c.in_ok-each-in-Some.each c.args.n (rw c.in-Some.is at c.in_ok-nth_way.ensures.way)
      (rw c.deref.ensures.value at c.in_ok-each-in-Some.ensures.counted) c.requires.small
      c.if-each-eq0.false (rw c.in-None-2.is at c.in_ok-nth_way-in-Some.ensures.way);
}

pub nth_at_once-returns : goal.nth_at_once-returns
nth_at_once-returns t c = record {
  tree = IfOk-weaker c.nth_tree.result _ _
      (λ o e. by_way (theory_of c.args.algebra.now) (windows_in c.args.windows.now) (map field_of c.args.columns.now)
      (plan_of c.args.part.now)
      c.args.choices.now c.in-Some.first.items c.in_ok-each-in-Some.each c.args.n (rw c.in-Some.is at c.in_ok-nth_way.ensures.way)
      (rw c.deref.ensures.value at c.in_ok-each-in-Some.ensures.counted) c.requires.small
      c.in-Some-2.way.items (option_map derivation_of o) c.if-each-eq0.false (rw c.in-Some-2.is at c.in_ok-nth_way-in-Some.ensures.way) e)
      (rw c.deref-in-Some-2.ensures.value at c.nth_tree.ensures.tree);
}

pub nth_both-returns-then-count-eq0 : goal.nth_both-returns-then-count-eq0
nth_both-returns-then-count-eq0 t c =
    let theory = theory_of c.args.algebra.now in
    let w = windows_in c.args.windows.now in
    record {
      tree = no_fronts both (trees_of theory w (plan_of c.args.right.now) c.args.choices.now)
          (trees_of theory w (plan_of c.args.left.now) c.args.choices.now) c.in_ok-count.count c.args.n c.in_ok-count.ensures.counted
          c.requires.small c.if-count-eq0.true;
    }

pub nth_both-returns-in-None : goal.nth_both-returns-in-None
nth_both-returns-in-None t c =
    let theory = theory_of c.args.algebra.now in
    let w = windows_in c.args.windows.now in
    record {
      tree = no_first both (trees_of theory w (plan_of c.args.right.now) c.args.choices.now)
          (trees_of theory w (plan_of c.args.left.now) c.args.choices.now) c.in_ok-count.count c.args.n c.in_ok-count.ensures.counted
          c.requires.small c.if-count-eq0.false
          (rw c.in-None.is at c.in_ok-nth_tree.ensures.tree);
    }

pub nth_both-returns-in-None-2 : goal.nth_both-returns-in-None-2
nth_both-returns-in-None-2 t c =
    let theory = theory_of c.args.algebra.now in
    let w = windows_in c.args.windows.now in
    record {
      tree = no_rest both (trees_of theory w (plan_of c.args.right.now) c.args.choices.now)
          (trees_of theory w (plan_of c.args.left.now) c.args.choices.now) c.in_ok-count.count c.args.n (derivation_of c.in-Some.first)
          c.in_ok-count.ensures.counted c.requires.small
          c.if-count-eq0.false (rw c.in-Some.is at c.in_ok-nth_tree.ensures.tree)
          (rw c.in-None-2.is at c.in_ok-nth_tree-in-Some.ensures.tree);
    }

pub nth_both-returns-in_ok-both-in-Some-2 : goal.nth_both-returns-in_ok-both-in-Some-2
nth_both-returns-in_ok-both-in-Some-2 t c =
    let theory = theory_of c.args.algebra.now in
    let w = windows_in c.args.windows.now in
    record {
      tree = both_parts both (trees_of theory w (plan_of c.args.right.now) c.args.choices.now)
          (trees_of theory w (plan_of c.args.left.now) c.args.choices.now) c.in_ok-count.count c.args.n (derivation_of c.in-Some.first)
          (derivation_of c.in-Some-2.second) (derivation_of c.in_ok-both-in-Some-2.field-0) c.in_ok-count.ensures.counted c.requires.small
          c.if-count-eq0.false (rw c.in-Some.is at c.in_ok-nth_tree.ensures.tree)
          (rw c.in-Some-2.is at c.in_ok-nth_tree-in-Some.ensures.tree)
          c.in_ok-both-in-Some-2.ensures.made;
    }

pub nth_under-returns-in-None : goal.nth_under-returns-in-None
nth_under-returns-in-None t c = record {
  tree = none_under (theory_of c.args.algebra.now) (windows_in c.args.windows.now) c.args.row.now c.args.more (plan_of c.args.part.now)
      c.args.choices.now c.args.n (rw c.in-None.is at c.in_ok-nth_tree.ensures.tree);
}

pub nth_under-returns-in_ok-run_over_part-in-Some : goal.nth_under-returns-in_ok-run_over_part-in-Some
nth_under-returns-in_ok-run_over_part-in-Some t c = record {
  tree = some_under (theory_of c.args.algebra.now) (windows_in c.args.windows.now) c.args.row.now c.args.more (plan_of c.args.part.now)
      c.args.choices.now c.args.n (derivation_of c.in-Some.tree) (derivation_of c.in_ok-run_over_part-in-Some.field-0)
      (rw c.in-Some.is at c.in_ok-nth_tree.ensures.tree) c.in_ok-run_over_part-in-Some.ensures.tree;
}
