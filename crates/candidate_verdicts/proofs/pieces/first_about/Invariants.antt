use Rattle.std.proofs.Common.{◌≡◌, drop}
use Rattle.rule_model.specs.Derivations.{derivation_of}
use Rattle.candidate_verdicts.specs.Stored.{pieces_of}
use Rattle.candidate_verdicts.proofs.pieces.first_about.Given as goal

abbrev pub invariant-loop-piece : goal.invariant-loop-piece
invariant-loop-piece l =
    pieces_of l.pieces l.generation.0 (derivation_of l.rules) ≡
    pieces_of (drop l.piece-index l.pieces) l.generation.0 (derivation_of l.rules)
