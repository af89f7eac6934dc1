use Rattle.std.proofs.Common.{◌≡◌, drop}
use Rattle.static_readings.specs.Declarations.{are_known}
use Rattle.static_readings.proofs.declarations.are_known.Given as goal

abbrev pub invariant-loop-declaration : goal.invariant-loop-declaration
invariant-loop-declaration l = are_known l.site (drop l.declaration-index l.declared) ≡ are_known l.site l.declared
