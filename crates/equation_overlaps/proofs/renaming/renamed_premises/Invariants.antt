use Rattle.std.proofs.Common.{◌≡◌, map, take}
use Rattle.spec_core.specs.Orthogonality.{renamed}
use Rattle.spec_core.specs.Theories.{premise_of}
use Rattle.equation_overlaps.specs.Renamings.{new_name}
use Rattle.equation_overlaps.proofs.renaming.renamed_premises.Given as goal

abbrev pub invariant-loop-premise : goal.invariant-loop-premise
invariant-loop-premise l =
    map premise_of l.all.items ≡ map (renamed (new_name l.names)) (map premise_of (take l.premise-index l.premises))
