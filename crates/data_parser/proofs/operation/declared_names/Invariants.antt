use Rattle.std.proofs.Common.{length, ◌<◌}
use Rattle.lotos_ast.specs.Nesting.{nesting_of}
use Rattle.data_parser.specs.OperationNames.{NamesOn}
use Rattle.data_parser.proofs.operation.declared_names.Given as goal

abbrev pub invariant-names : goal.invariant-names
invariant-names l = record {
  on : NamesOn (nesting_of l.nest) l.fn.cursor l.names.items l.between l.cursor;
  fewer : length l.cursor < length l.fn.cursor;
}

abbrev pub decreases-names : goal.decreases-names
decreases-names l = length l.cursor
