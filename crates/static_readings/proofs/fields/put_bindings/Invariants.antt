use Rattle.std.proofs.Common.{◌≡◌, map, take}
use Rattle.static_readings.specs.Calls.{variable_of}
use Rattle.static_readings.specs.Sites.{with_variables}
use Rattle.static_readings.proofs.fields.put_bindings.Given as goal

abbrev pub invariant-loop-one : goal.invariant-loop-one
invariant-loop-one l = l.site ≡ with_variables l.fn.site (map (variable_of l.fn.site) (take l.one-index l.from))
