use Rattle.std.proofs.Common.{map, take}
use Rattle.spec_core.specs.Theories.{equation_of}
use Rattle.equation_faults.proofs.Walks.{Listed}
use Rattle.equation_faults.proofs.heads.heads.Given as goal

abbrev pub invariant-loop-equation : goal.invariant-loop-equation
invariant-loop-equation l = Listed l.all.items (map equation_of (take l.equation-index l.equation-items))
