use Rattle.std.proofs.Common.{◌≡◌, map, take}
use Rattle.static_compiler.proofs.names.chosen_names.Given as goal

abbrev pub invariant-loop-one : goal.invariant-loop-one
invariant-loop-one l = map (λ t. t.now) l.all.items ≡ map (λ c. c.gate) (take l.one-index l.from)
