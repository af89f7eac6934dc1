use Rattle.std.proofs.Common.{◌∙◌, ap}
use Rattle.std.proofs.lemmas.Result.{IfOk-weaker}
use Rattle.decision_trees.specs.Rules.{any, any_beyond}
use Rattle.candidates.specs.KnownTrees.{first_in}
use Rattle.board_core.specs.Ends.{end_found}
use Rattle.board_core.specs.Views.{first_at}
use Rattle.board_core.proofs.Knowing.{IsOf, first_known}
use Rattle.board_core.proofs.board.Board.found_end.Goals as goal

pub returns : goal.returns
returns c =
    let v = c.args.self.now in
    let k = c.in_ok-known.known in
    let h = c.in_ok-known.ensures in
    let is : IsOf v k = record { algebra = h.algebra; windows = h.windows; tree = h.tree; pieces = h.pieces; offers = h.offers } in
    IfOk-weaker c.end_by_trees.result _ _
    (λ o e. e ∙ ap (λ found. end_found found (first_in k any_beyond)) (first_known v k is any)
    ∙ ap (end_found (first_at v any)) (first_known v k is any_beyond))
    c.end_by_trees.ensures
