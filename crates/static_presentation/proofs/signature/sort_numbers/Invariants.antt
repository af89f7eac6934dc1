use Rattle.std.proofs.Common.{◌≡◌, map, take, string_bytes}
use Rattle.spec_core.specs.Numbers as numbers
use Rattle.type_contents.specs.Views.{described_of}
use Rattle.static_presentation.specs.Signatures.{sort_number}
use Rattle.static_presentation.proofs.signature.sort_numbers.Given as goal

abbrev pub invariant-loop-name : goal.invariant-loop-name
invariant-loop-name l = map numbers.sort_number l.all.items ≡ map (sort_number (map described_of l.sorts)) (map (λ s. string_bytes s) (take l.name-index l.names))
