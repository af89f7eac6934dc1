use Rattle.std.proofs.Common.{length, map, ◌≤◌}
use Rattle.lotos_ast.specs.TypeTrees.{equation_tree}
use Rattle.lotos_ast.specs.Nesting.{nesting_of}
use Rattle.data_parser.specs.Equations.{EquationsOn}
use Rattle.data_parser.proofs.equation.equations.Given as goal

abbrev pub invariant-equations : goal.invariant-equations
invariant-equations l = record {
  on : EquationsOn (nesting_of l.nest) l.initial.cursor (map equation_tree l.all.items) l.cursor;
  no_more : length l.cursor ≤ length l.initial.cursor;
}

abbrev pub decreases-equations : goal.decreases-equations
decreases-equations l = length l.cursor
