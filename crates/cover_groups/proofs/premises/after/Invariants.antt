use Rattle.std.proofs.Common.{map, take}
use Rattle.spec_core.specs.Cover.{IsAfter}
use Rattle.spec_core.specs.Terms.{term_of}
use Rattle.spec_core.specs.Theories.{theory_of}
use Rattle.cover_groups.specs.Groups.{premises_at}
use Rattle.cover_groups.proofs.premises.after.Given as goal

abbrev pub invariant-loop-list : goal.invariant-loop-list
invariant-loop-list l =
    IsAfter (theory_of l.algebra) (term_of l.term) l.constant.0 (map premises_at (take l.list-index l.lists)) (map premises_at l.all.items)
