use Rattle.std.proofs.Common.{◌≡◌, drop}
use Rattle.candidate_verdicts.specs.Stored as of
use Rattle.candidate_verdicts.proofs.pieces.is_gone.Given as goal

abbrev pub invariant-loop-one : goal.invariant-loop-one
invariant-loop-one l = of.is_gone l.gone l.generation.0 ≡ of.is_gone (drop l.one-index l.gone) l.generation.0
