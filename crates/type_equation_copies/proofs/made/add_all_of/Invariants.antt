use Rattle.std.proofs.Common.{◌≡◌, ◌++◌, map, take}
use Rattle.std.specs.List.{flat_map}
use Rattle.type_images.specs.Views.{shared_of}
use Rattle.type_equation_copies.specs.Contents as contents
use Rattle.type_equation_copies.specs.Views.{made_at}
use Rattle.type_equation_copies.proofs.made.add_all_of.Given as goal

abbrev pub invariant-loop-name : goal.invariant-loop-name
invariant-loop-name l = map shared_of l.all.items ≡ map shared_of l.initial.all.items ++ flat_map (contents.all_of l.prepared.types.now (map made_at l.found)) (take l.name-index l.names)
