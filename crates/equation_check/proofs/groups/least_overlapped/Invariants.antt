use Rattle.std.proofs.Common.{map, take}
use Rattle.spec_core.specs.Theories.{theory_of, equation_of}
use Rattle.equation_check.specs.Groups.{seen, IsLeast}
use Rattle.equation_check.proofs.groups.least_overlapped.Given as goal

abbrev pub invariant-loop-place : goal.invariant-loop-place
invariant-loop-place l = IsLeast (theory_of l.algebra) (map seen l.equations) (equation_of l.later) (take l.place-index l.places) l.bound l.least
