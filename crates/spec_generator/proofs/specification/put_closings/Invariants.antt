use Rattle.std.proofs.Common.{◌≡◌, ◌++◌, codes, string_bytes}
use Rattle.std.specs.List.{repeat}
use Rattle.spec_generator.proofs.specification.put_closings.Given as goal

abbrev pub invariant-loop-turn : goal.invariant-loop-turn
invariant-loop-turn l = string_bytes l.out ≡ string_bytes l.initial.out ++ repeat l._turn (codes ")")
