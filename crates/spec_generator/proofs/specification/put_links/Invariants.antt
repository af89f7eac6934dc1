use Rattle.std.proofs.Common.{◌≡◌, ◌-◌, ◌++◌, flat_map, string_bytes}
use Rattle.std.specs.List.{range_with_len}
use Rattle.spec_generator.specs.Links.{link}
use Rattle.spec_generator.proofs.specification.put_links.Given as goal

abbrev pub invariant-loop-number : goal.invariant-loop-number
invariant-loop-number l =
    string_bytes l.out ≡ string_bytes l.initial.out ++ flat_map (link l.size) (range_with_len 1 (l.number - 1))
