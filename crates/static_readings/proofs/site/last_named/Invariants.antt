use Rattle.std.proofs.Common.{◌≡◌, ◌+◌, map, drop, None}
use Rattle.static_readings.specs.Sites.{last_named}
use Rattle.static_readings.proofs.site.last_named.Given as goal

abbrev pub invariant-loop-i : goal.invariant-loop-i
invariant-loop-i l = last_named l.name.text l.found (l.first + l.i) (map (λ t. t.now.text) (drop l.i l.gates)) ≡ last_named l.name.text None l.first (map (λ t. t.now.text) l.gates)
