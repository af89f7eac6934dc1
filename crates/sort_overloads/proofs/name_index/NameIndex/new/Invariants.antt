use Rattle.std.proofs.Common.{◌≡◌, ℕ, List, map, take}
use Rattle.std.specs.Char.{to_ascii_lowercase}
use Rattle.spec_core.specs.Theories.{operation_of}
use Rattle.sort_overloads.specs.Indexes.{numbers_at, numbers_of}
use Rattle.sort_overloads.proofs.name_index.NameIndex.new.Given as goal

abbrev pub invariant-loop-i : goal.invariant-loop-i
invariant-loop-i l = (name : List ℕ) → numbers_at l.index (map to_ascii_lowercase name) ≡ numbers_of name (map operation_of (take l.i l.operations))
