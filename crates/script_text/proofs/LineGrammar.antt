-- What is read of a line with one token ahead is what its grammar spells.
use Rattle.lotos_ast.specs.Conditions.{IsWellFormed}
use Rattle.lotos_ast.proofs.GrammarLaws.{spelled_is_read}
use Rattle.script_text.specs.Laws.{LinesAreSpelled}
use Rattle.script_text.specs.Written.{wish_line}

well_formed : IsWellFormed wish_line
well_formed = search

pub lines_are_spelled : LinesAreSpelled
lines_are_spelled tokens = spelled_is_read wish_line tokens well_formed
