use Rattle.std.proofs.Common.{map, take}
use Rattle.spec_core.specs.Lists.{Each}
use Rattle.spec_core.specs.Terms.{term_of, terms}
use Rattle.cover_search.specs.Candidates.{MeetsAt}
use Rattle.cover_search.specs.Search.{rows_of}
use Rattle.cover_search.proofs.Candidates.{WholeIn}
use Rattle.cover_search.proofs.rows.meeting.Given as goal

abbrev pub invariant-loop-number : goal.invariant-loop-number
invariant-loop-number l = record {
  meet : Each (MeetsAt (rows_of l.rows) (terms (map term_of l.pattern))) l.all.items;
  whole : WholeIn (rows_of l.rows) (terms (map term_of l.pattern)) l.all.items (take l.number-index l.candidates);
}
