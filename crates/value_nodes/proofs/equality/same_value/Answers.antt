use Rattle.std.proofs.Common.{rules, IsTrue, ◌≡◌, ◌++◌, ◌∷◌, [], sym, subst}
use Rattle.spec_core.specs.Lists.{Each}
use Rattle.spec_core.proofs.Lists.{each_push}
use Rattle.value_nodes.specs.Parts.{IsAlike}
use Rattle.value_nodes.proofs.Parts.{each_less}
use Rattle.value_nodes.proofs.equality.same_value.Goals as goal

pub loop-turn-preserved : goal.loop-turn-preserved
loop-turn-preserved c =
    let e : c.loop-turn.pairs.items ≡ c.pop.new.self.items ++ c.in-Some.pair ∷ [] = search rules in
    let yes : IsTrue c.in_ok-compare-in-Some.field-0 = search rules in
    record {
      there = c.in_ok-compare-in-Some.ensures.there yes;
      to = λ all.
          let o = c.in_ok-compare-in-Some.ensures.to yes all in
          c.loop-turn.invariant.to (subst (Each (IsAlike c.args.nodes.now)) (sym e)
          (each_push (IsAlike c.args.nodes.now) c.pop.new.self.items c.in-Some.pair o.1 o.0));
      from = λ q.
          let o = each_less (IsAlike c.args.nodes.now) c.pop.new.self.items c.in-Some.pair
          (subst (Each (IsAlike c.args.nodes.now)) e (c.loop-turn.invariant.from q)) in
          c.in_ok-compare-in-Some.ensures.from yes o.1 o.0;
    }
