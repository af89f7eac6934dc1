use Rattle.std.proofs.Common.{◌≡◌, map, drop}
use Rattle.lotos_ast.specs.Marks.{find_mark, entry_of}
use Rattle.lotos_ast.proofs.mark.find_mark.Given as goal

abbrev pub invariant-loop-spelling : goal.invariant-loop-spelling
invariant-loop-spelling l = find_mark l.word (map entry_of l.table) ≡ find_mark l.word (map entry_of (drop l.spelling-index l.table))
