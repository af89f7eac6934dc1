use Rattle.std.proofs.Common.{ℕ, ◌≡◌, map, take}
use Rattle.spec_core.specs.Theories.{equation_of}
use Rattle.cover_search.specs.Heads.{headed, headed_at}
use Rattle.cover_search.proofs.heads.HeadIndex.of.Given as goal

abbrev pub invariant-loop-equation : goal.invariant-loop-equation
invariant-loop-equation l = (f : ℕ) → headed_at l.index f ≡ headed f (map equation_of (take l.equation-index l.equations))
