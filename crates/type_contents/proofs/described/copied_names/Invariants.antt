use Rattle.std.proofs.Common.{◌≡◌, map, string_bytes, take}
use Rattle.type_contents.proofs.described.copied_names.Given as goal

abbrev pub invariant-loop-name : goal.invariant-loop-name
invariant-loop-name l = map (λ s. string_bytes s) l.all.items ≡ map (λ s. string_bytes s) (take l.name-index l.names)
