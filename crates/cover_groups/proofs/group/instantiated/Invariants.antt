use Rattle.std.proofs.Common.{◌≡◌, map, take}
use Rattle.spec_core.specs.Substitutions.{substitution_of}
use Rattle.spec_core.specs.Terms.{term_of}
use Rattle.spec_core.specs.Theories.{premise_of}
use Rattle.cover_groups.specs.Groups.{premise_instance}
use Rattle.cover_groups.proofs.group.instantiated.Given as goal

abbrev pub invariant-loop-premise : goal.invariant-loop-premise
invariant-loop-premise l = map premise_of l.items.items ≡
    map (premise_instance (substitution_of (map term_of l.bound))) (map premise_of (take l.premise-index l.premises))
