use Rattle.std.proofs.Common.{◌≡◌, map, take}
use Rattle.std.specs.List.{flat_map}
use Rattle.type_images.specs.Views.{shared_of}
use Rattle.type_equation_copies.specs.Views.{made_at}
use Rattle.type_data.proofs.equations.all_brought.Given as goal

abbrev pub invariant-loop-one : goal.invariant-loop-one
invariant-loop-one l = map shared_of l.all.items ≡ flat_map (λ e. e.brought) (map made_at (take l.one-index l.found))
