use Rattle.std.proofs.Common.{◌≡◌, map, take}
use Rattle.spec_core.specs.Substitutions.{substitution_of}
use Rattle.spec_core.specs.Terms.{instance, term_of}
use Rattle.value_reference.proofs.matching.+instantiate.Given as goal

abbrev pub invariant-loop-arg : goal.invariant-loop-arg
invariant-loop-arg l =
    map term_of l.all.items ≡ map (instance (substitution_of (map term_of l.bound))) (map term_of (take l.arg-index l.arg-items))
