use Rattle.std.proofs.Common.{◌≡◌, map, take}
use Rattle.spec_core.specs.Code.{node_of}
use Rattle.spec_core.proofs.code.copy_code.Given as goal

abbrev pub invariant-loop-node : goal.invariant-loop-node
invariant-loop-node l = map node_of l.all.items ≡ map node_of (take l.node-index l.code)
