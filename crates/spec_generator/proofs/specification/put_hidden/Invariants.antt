use Rattle.std.proofs.Common.{◌≡◌, ◌-◌, ◌++◌, codes, flat_map, string_bytes}
use Rattle.std.specs.List.{range_with_len}
use Rattle.spec_generator.specs.Specifications.{gate}
use Rattle.spec_generator.proofs.specification.put_hidden.Given as goal

abbrev pub invariant-loop-number : goal.invariant-loop-number
invariant-loop-number l =
    string_bytes l.out ≡ string_bytes l.initial.out ++ flat_map (λ j. codes ", " ++ gate j) (range_with_len 2 (l.number-counter - 2))
