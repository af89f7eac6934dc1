use Rattle.std.proofs.Common.{◌≡◌, map, take, false}
use Rattle.lotos_front.specs.Libraries.{is_named}
use Rattle.lotos_front.proofs.libraries.is_named.Given as goal

abbrev pub invariant-loop-name : goal.invariant-loop-name
invariant-loop-name l = is_named (map (λ t. t.now) (take l.name-index l.names)) l.word ≡ false
