use Rattle.std.proofs.Common.{map}
use Rattle.std.proofs.lemmas.Result.{IfOk-weaker}
use Rattle.spec_core.specs.Theories.{theory_of}
use Rattle.node_trees.specs.Shapes.{shape_of}
use Rattle.symbolic_rules.specs.Tables.{windows_in}
use Rattle.candidate_composites.specs.Known.{placed_of, placed_plans, sought_in}
use Rattle.candidate_search.specs.Searches.{query_of}
use Rattle.candidates.proofs.Asking.{sought_alone}
use Rattle.candidates.proofs.known_tree.KnownTree.sought.Goals as goal

pub returns : goal.returns
returns c =
    let s = c.args.self.now in
    let theory = theory_of s.algebra.now in
    IfOk-weaker c.sought_composites.result _ _
    (λ all e. sought_alone theory (windows_in s.windows.now) (query_of c.args.search.now) (sought_in c.in_ok-sought.sought)
    (map placed_of all.items) (placed_plans theory (shape_of s.tree.now)) c.in_ok-sought.ensures e) c.sought_composites.ensures.sought
