use Rattle.std.proofs.Common.{map, take}
use Rattle.spec_core.specs.Terms.{term_of}
use Rattle.cover_groups.specs.Groups.{AllFrom, AllGive, premises_of}
use Rattle.cover_search.specs.Heads.{equations_at}
use Rattle.cover_groups.proofs.group.lists_among.Given as goal

abbrev pub invariant-loop-one : goal.invariant-loop-one
invariant-loop-one l = record {
  from : AllFrom (equations_at l.equations) (term_of l.left) (map premises_of l.lists.items);
  give : AllGive (term_of l.left) (map premises_of l.lists.items) (equations_at (take l.one-index l.equations));
}
