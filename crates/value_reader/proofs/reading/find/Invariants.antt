use Rattle.std.proofs.Common.{map}
use Rattle.spec_core.specs.Numbers.{sort_number}
use Rattle.spec_core.specs.Theories.{operations_of}
use Rattle.value_reader.specs.Stands.{is_call}
use Rattle.value_reader.specs.Views.{bytes_of}
use Rattle.value_reader.proofs.Lookups.{NoneBefore}
use Rattle.value_reader.proofs.reading.find.Given as goal

abbrev pub invariant-loop-i : goal.invariant-loop-i
invariant-loop-i l =
    NoneBefore (is_call l.signature.sorts.items l.name (map sort_number l.args) (bytes_of l.sort)) (operations_of l.signature) l.i
