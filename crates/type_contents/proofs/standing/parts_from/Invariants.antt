use Rattle.std.proofs.Common.{◌≡◌, map, ◌∷◌, [], take}
use Rattle.std.specs.List.{flat_map, slice_index_or}
use Rattle.type_contents.specs.Views.{parts_at}
use Rattle.type_contents.proofs.standing.parts_from.Given as goal

abbrev pub invariant-loop-number : goal.invariant-loop-number
invariant-loop-number l = l.all.items ≡ flat_map (λ k. k ∷ slice_index_or (map parts_at l.found) k []) (take l.number-index l.links)
