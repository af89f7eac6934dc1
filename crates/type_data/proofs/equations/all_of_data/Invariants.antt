use Rattle.std.proofs.Common.{◌≡◌, map, take}
use Rattle.type_images.specs.Views.{shared_of}
use Rattle.type_equation_copies.specs.Views.{made_at}
use Rattle.type_data.specs.Data.{of_data}
use Rattle.type_data.proofs.equations.all_of_data.Given as goal

abbrev pub invariant-loop-number : goal.invariant-loop-number
invariant-loop-number l = map shared_of l.all.items ≡ of_data (λ e. e.all) (take l.number l.formal) (map made_at l.found)
