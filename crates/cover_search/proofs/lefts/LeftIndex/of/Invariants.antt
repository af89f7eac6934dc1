use Rattle.std.proofs.Common.{ℕ, ◌≡◌, map, take}
use Rattle.spec_core.specs.Theories.{equation_of}
use Rattle.cover_search.specs.Lefts.{keyed, keyed_at}
use Rattle.cover_search.proofs.lefts.LeftIndex.of.Given as goal

abbrev pub invariant-loop-equation : goal.invariant-loop-equation
invariant-loop-equation l = (k : ℕ) → keyed_at l.index k ≡ keyed k (map equation_of (take l.equation-index l.equations))
