use Rattle.std.proofs.Common.{ℕ, ◌≡◌, [], drop, if◌then◌else◌}
use Rattle.candidate_verdicts.specs.Stored.{group_at, is_gone}
use Rattle.candidate_verdicts.proofs.pieces.Pieces.drop_gone.Given as goal

abbrev pub invariant-loop-one : goal.invariant-loop-one
invariant-loop-one l = (g k : ℕ) →
    (if is_gone (drop l.one-index l.gone) g then [] else group_at l.self g k) ≡ (if is_gone l.gone g then [] else group_at l.initial.self g k)
