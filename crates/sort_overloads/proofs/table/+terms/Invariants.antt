use Rattle.std.proofs.Common.{◌≡◌, map, take}
use Rattle.spec_core.specs.Terms.{term_of}
use Rattle.sort_overloads.specs.Tables.{table_of, picked}
use Rattle.sort_overloads.proofs.table.+terms.Given as goal

abbrev pub invariant-picked_terms-loop-pick : goal.invariant-picked_terms-loop-pick
invariant-picked_terms-loop-pick l = map term_of l.all.items ≡ map (picked (map table_of l.parts)) (take l.pick-index l.picks)
