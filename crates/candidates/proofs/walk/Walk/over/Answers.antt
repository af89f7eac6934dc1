use Rattle.std.proofs.Common.{ap}
use Rattle.std.proofs.lemmas.List.{append-nil}
use Rattle.spec_core.specs.Theories.{theory_of}
use Rattle.symbolic_rules.specs.Tables.{windows_in}
use Rattle.candidate_search.specs.Searches.{query_of}
use Rattle.candidates.specs.Composites.{without_gaps}
use Rattle.candidates.specs.Listed.{trees_sought}
use Rattle.candidates.proofs.walk.Walk.over.Goals as goal

pub returns : goal.returns
returns c = record {
  starts = ap (trees_sought (theory_of c.args.algebra.now) (windows_in c.args.windows.now) (query_of c.args.search))
      (append-nil (without_gaps c.args.composites.now));
}
