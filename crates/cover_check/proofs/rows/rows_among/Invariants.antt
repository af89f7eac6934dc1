use Rattle.std.proofs.Common.{take}
use Rattle.spec_core.specs.Theories.{theory_of}
use Rattle.cover_search.specs.Heads.{equations_at}
use Rattle.cover_search.specs.Search.{rows_of}
use Rattle.cover_check.specs.Cases.{AreRows}
use Rattle.cover_check.proofs.rows.rows_among.Given as goal

abbrev pub invariant-loop-one : goal.invariant-loop-one
invariant-loop-one l = AreRows (theory_of l.algebra) l.op.0 (equations_at (take l.one-index l.headed)) (rows_of l.rows.items)
