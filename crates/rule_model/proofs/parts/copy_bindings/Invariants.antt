use Rattle.std.proofs.Common.{◌≡◌, map, take}
use Rattle.spec_core.specs.Code.{binding_of}
use Rattle.rule_model.proofs.parts.copy_bindings.Given as goal

abbrev pub invariant-loop-binding : goal.invariant-loop-binding
invariant-loop-binding l = map binding_of l.all.items ≡ map binding_of (take l.binding-index l.bindings)
