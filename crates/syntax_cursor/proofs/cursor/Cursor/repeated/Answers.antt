use Rattle.std.proofs.Common.{rules, arith}
use Rattle.syntax_cursor.proofs.Loops.{repeats_next}
use Rattle.syntax_cursor.proofs.cursor.Cursor.repeated.Goals as goal

pub items-preserved : goal.items-preserved
items-preserved g c = record {
  repeats = repeats_next _ _ _ _ _ _ c.in_ok-next.next _ _ c.items.invariant.repeats (search rules) c.in_ok-next.ensures.read
      (search rules);
  no_more = omega (arith, c.in_ok-next.ensures.fewer, c.items.invariant.no_more);
}
