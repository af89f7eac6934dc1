use Rattle.std.proofs.Common.{◌≡◌, map}
use Rattle.spec_core.specs.Code.{exit_value_of}
use Rattle.spec_core.specs.Numbers.{sort_number}
use Rattle.static_readings.specs.Views.{exit_value_at}
use Rattle.static_compiler.proofs.leaves.put_exit.Given as goal

abbrev pub invariant-loop-field : goal.invariant-loop-field
invariant-loop-field l = record {
  fields : map exit_value_of l.fields.items ≡ map (λ v. v.0) (map exit_value_at l.yielded);
  sorts : map sort_number l.sorts.items ≡ map (λ v. v.1) (map exit_value_at l.yielded);
}
