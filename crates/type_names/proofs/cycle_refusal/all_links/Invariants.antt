use Rattle.std.proofs.Common.{◌≡◌, map}
use Rattle.type_names.proofs.cycle_refusal.all_links.Given as goal

abbrev pub invariant-loop-one : goal.invariant-loop-one
invariant-loop-one l = l.all.items ≡ map (λ one. one.numbers.items) l.yielded
