use Rattle.std.proofs.Common.{◌≡◌, map, take}
use Rattle.type_contents.specs.Views.{parts_at}
use Rattle.type_equation_copies.specs.Needs as needs
use Rattle.type_equation_copies.proofs.schedule.all_with_parts.Given as goal

abbrev pub invariant-loop-links : goal.invariant-loop-links
invariant-loop-links l = map (λ k. k.numbers.items) l.all.items ≡ map (needs.with_parts (map parts_at l.standings)) (map (λ k. k.numbers.items) (take l.links-index l.linked))
