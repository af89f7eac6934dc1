-- Terms put into lists of terms.
use Rattle.std.proofs.Common.{◌≡◌, List, [], ◌∷◌, map, refl, ap}
use Rattle.spec_core.specs.Terms.{TermTree, terms, and_term, instance, instances}
use Rattle.rule_model.specs.Substitution.{Assignment}

pub instances-terms : (s : Assignment) (ts : List TermTree) → terms (map (instance s) ts) ≡ instances s (terms ts)
instances-terms s [] = refl
instances-terms s (t ∷ ts) = ap (and_term (instance s t)) (instances-terms s ts)
