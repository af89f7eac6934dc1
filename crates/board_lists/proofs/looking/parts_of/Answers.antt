use Rattle.std.proofs.Common.{◌∙◌, ap, map}
use Rattle.std.proofs.lemmas.Result.{IfOk-weaker}
use Rattle.spec_core.specs.Theories.{theory_of}
use Rattle.candidate_laws.specs.Sought.{every_kind}
use Rattle.candidate_search.specs.Searches.{query_of}
use Rattle.candidate_composites.specs.Known.{placed_of, sought_plans}
use Rattle.node_trees.specs.Shapes.{shape_of}
use Rattle.board_core.specs.Views.{program}
use Rattle.board_lists.proofs.Searching.{looks_through}
use Rattle.board_lists.proofs.looking.parts_of.Goals as goal

pub returns : goal.returns
returns c =
    let v = c.args.board.now in
    IfOk-weaker c.sought_composites.result _ _
    (λ all e. looks_through v (query_of c.args.search.now) c.requires.all (map placed_of all.items)
    (e ∙ ap (λ k. sought_plans (theory_of k.algebra) (shape_of c.nodes.result.now) every_kind) c.checked.ensures
    ∙ ap (λ t. sought_plans (program v).theory t every_kind) c.nodes.ensures))
    c.sought_composites.ensures.sought
