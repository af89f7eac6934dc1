-- What is found first among the parts of a known tree is what is found in the tree.
use Rattle.std.proofs.Common.{◌≡◌, ap}
use Rattle.spec_core.specs.Theories.{theory_of}
use Rattle.symbolic_rules.specs.Tables.{windows_in}
use Rattle.decision_trees.specs.Rules.{any, any_beyond}
use Rattle.candidates.specs.KnownTrees.{HasItsParts, first_in, first_of_those, trees_for}
use Rattle.candidates.specs.Listed.{trees_sought}
use Rattle.candidates.specs.declared.known_tree.KnownTree.{KnownTree}

pub any_found : (s : KnownTree) → HasItsParts s → first_of_those s any (trees_for s any) ≡ first_in s any
any_found s parts = ap (λ ps. first_of_those s any (trees_sought (theory_of s.algebra.now) (windows_in s.windows.now) any ps)) parts

pub any_beyond_found : (s : KnownTree) → HasItsParts s → first_of_those s any_beyond (trees_for s any_beyond) ≡ first_in s any_beyond
any_beyond_found s parts =
    ap (λ ps. first_of_those s any_beyond (trees_sought (theory_of s.algebra.now) (windows_in s.windows.now) any_beyond ps)) parts
