use Rattle.std.proofs.Common.{◌∙◌, ap, option_map, sym}
use Rattle.rule_model.specs.Derivations.{derivation_of}
use Rattle.decision_trees.specs.Lazy.{first}
use Rattle.candidate_verdicts.specs.declared.pieces.Pieces.{Pieces}
use Rattle.candidate_verdicts.specs.Known.{missing_parts}
use Rattle.candidate_verdicts.specs.Stored.{node_part_of, stored}
use Rattle.node_trees.specs.Shapes.{Shape}
use Rattle.board_core.specs.Views.{pieces, program, tree, windows}
use Rattle.board_lists.proofs.Searching.{some_missing}
use Rattle.board_lists.proofs.looking.missing_part.Goals as goal

pub unreachable-requires : goal.unreachable-requires
unreachable-requires c =
    let v = c.args.board.now in
    let d = derivation_of c.args.rules.now in
    let none =
    ap (λ (p : Pieces). first (missing_parts (stored p) (tree v) d)) (sym c.pieces.ensures)
    ∙ ap (λ (t : Shape). first (missing_parts (stored c.pieces.result.now) t d)) (sym c.nodes.ensures)
    ∙ sym c.first_missing.ensures.first ∙ ap (option_map node_part_of) c.in-None.is
    in
    some_missing (program v).theory (windows v) (pieces v) (tree v) d c.requires.unknown none
