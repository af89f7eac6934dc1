use Rattle.std.proofs.Common.{◌≡◌, map, take}
use Rattle.type_contents.specs.Views.{parts_at}
use Rattle.type_equation_copies.specs.Needs as needs
use Rattle.type_equation_copies.proofs.schedule.with_parts.Given as goal

abbrev pub invariant-loop-number : goal.invariant-loop-number
invariant-loop-number l = l.all.items ≡ needs.with_parts (map parts_at l.standings) (take l.number-index l.numbers)
