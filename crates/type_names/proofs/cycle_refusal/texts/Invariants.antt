use Rattle.std.proofs.Common.{◌≡◌, take, map}
use Rattle.type_names.proofs.cycle_refusal.texts.Given as goal

abbrev pub invariant-loop-name : goal.invariant-loop-name
invariant-loop-name l = l.all.items ≡ map (λ t. t.text) (map (λ t. t.now) (take l.name-index l.names))
