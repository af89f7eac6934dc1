use Rattle.std.proofs.Common.{◌≡◌, length}
use Rattle.match_code.proofs.matching.match_at.Given as goal

abbrev pub invariant-loop-turn : goal.invariant-loop-turn
invariant-loop-turn l = record {
  room : length l.bound ≡ length l.fn.bound;
}
