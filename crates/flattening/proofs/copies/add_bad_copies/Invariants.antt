use Rattle.std.proofs.Common.{◌≡◌, ◌++◌, take}
use Rattle.std.specs.List.{flat_map}
use Rattle.flattening.specs.Views.{all_of}
use Rattle.flattening.specs.Refusals.{bad_copy}
use Rattle.flattening.proofs.copies.add_bad_copies.Given as goal

abbrev pub invariant-loop-definition : goal.invariant-loop-definition
invariant-loop-definition l = l.refusals.items ≡ l.initial.refusals.items ++ flat_map (bad_copy l.types l.flat.contents (all_of l.flat)) (take l.definition-index l.types)
