use Rattle.std.proofs.Common.{◌≡◌, ◌++◌, [], take, map}
use Rattle.type_contents.specs.Images.{new_operation}
use Rattle.type_contents.specs.Views.{new_operation_of}
use Rattle.type_names.specs.Refused.{each_after}
use Rattle.type_copies.specs.BadRenamings.{bad_operation_pair}
use Rattle.type_copies.specs.Views.{copy_view}
use Rattle.type_copies.proofs.bad_pairs.add_bad_operations.Given as goal

abbrev pub invariant-loop-pair : goal.invariant-loop-pair
invariant-loop-pair l = record {
  before : map new_operation_of l.before.items ≡ map new_operation (take l.pair-index l.pairs);
  refused : l.refusals.items ≡ l.initial.refusals.items ++ each_after (bad_operation_pair (copy_view l.copy)) [] (take l.pair-index l.pairs);
}
