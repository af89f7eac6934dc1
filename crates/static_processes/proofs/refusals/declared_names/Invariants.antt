use Rattle.std.proofs.Common.{◌≡◌, map, take}
use Rattle.static_readings.specs.Declarations.{declared_names}
use Rattle.static_processes.proofs.refusals.declared_names.Given as goal

abbrev pub invariant-loop-declaration : goal.invariant-loop-declaration
invariant-loop-declaration l = map (λ t. t.now) l.all.items ≡ declared_names (take l.declaration-index l.declared)
