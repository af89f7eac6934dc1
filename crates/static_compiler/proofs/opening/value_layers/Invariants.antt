use Rattle.std.proofs.Common.{◌≡◌, map}
use Rattle.spec_core.specs.Code.{variable_of}
use Rattle.static_compiler.specs.Frames.{value_layer}
use Rattle.static_compiler.specs.Views.{maker_of}
use Rattle.static_compiler.proofs.opening.value_layers.Given as goal

abbrev pub invariant-loop-variable : goal.invariant-loop-variable
invariant-loop-variable l = map maker_of l.all.items ≡ map value_layer (map variable_of l.yielded)
