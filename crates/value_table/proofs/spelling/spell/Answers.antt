use Rattle.std.proofs.Common.{rules, ◌≡◌, ◌++◌, ◌∷◌, [], subst, sym, reverse}
use Rattle.spec_core.specs.Lists.{Each}
use Rattle.spec_core.specs.Terms.{preorder}
use Rattle.spec_core.proofs.Lists.{each_append, each_left}
use Rattle.value_table.specs.Tables.{tree_at, IsRow}
use Rattle.value_table.proofs.Spelled.{each_reverse, spelled_on}
use Rattle.value_table.proofs.spelling.spell.Goals as goal

pub loop-turn-preserved : goal.loop-turn-preserved
loop-turn-preserved c =
    let e : c.loop-turn.todo.items ≡ c.pop.new.self.items ++ c.in-Some.next ∷ [] = search rules in
    let o : c.push-in-Some.new.self.items ≡ c.loop-turn.ops.items ++ c.at.result.0 ∷ [] = search rules in
    let n : c.push_reversed.new.todo.items ≡ c.pop.new.self.items ++ reverse c.at.result.1.now = search rules in
    record {
      there =
          subst (Each (IsRow c.args.table.now)) (sym n)
          (each_append (IsRow c.args.table.now) c.pop.new.self.items (reverse c.at.result.1.now)
          (each_left (IsRow c.args.table.now) c.pop.new.self.items (c.in-Some.next ∷ [])
          (subst (Each (IsRow c.args.table.now)) e c.loop-turn.invariant.there))
          (each_reverse (IsRow c.args.table.now) c.at.result.1.now c.at.ensures.args));
      spelled =
          spelled_on c.args.table.now c.loop-turn.ops.items c.push-in-Some.new.self.items c.at.result.0 c.loop-turn.todo.items
          c.pop.new.self.items c.push_reversed.new.todo.items c.at.result.1.now c.in-Some.next
          (preorder (tree_at c.args.table.now c.args.row)) e c.at.ensures.term o n c.loop-turn.invariant.spelled;
    }
