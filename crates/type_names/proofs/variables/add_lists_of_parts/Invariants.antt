use Rattle.std.proofs.Common.{◌≡◌, ◌++◌, take, map}
use Rattle.std.specs.List.{flat_map}
use Rattle.type_names.proofs.variables.add_lists_of_parts.Given as goal

abbrev pub invariant-loop-part : goal.invariant-loop-part
invariant-loop-part l = map (λ f. f.now) l.all.items ≡ map (λ f. f.now) l.initial.all.items ++ flat_map (λ part. part.variables.items) (take l.part-index l.parts)
