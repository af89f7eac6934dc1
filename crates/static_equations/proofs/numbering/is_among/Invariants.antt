use Rattle.std.proofs.Common.{◌≡◌, take, false, nat_eq}
use Rattle.std.specs.List.{list_any}
use Rattle.static_equations.proofs.numbering.is_among.Given as goal

abbrev pub invariant-loop-other : goal.invariant-loop-other
invariant-loop-other l = list_any (nat_eq l.number) (take l.other-index l.numbers) ≡ false
