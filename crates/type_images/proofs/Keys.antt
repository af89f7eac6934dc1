-- Keys of terms.
use Rattle.std.proofs.Common.{◌≡◌, refl, List, [], ◌∷◌, ℕ}
use Rattle.std.specs.List.{fold}
use Rattle.spec_core.specs.Terms.{TermTree, terms}
use Rattle.type_images.specs.Groups.{term_key, terms_key}

pub keys_of_terms : (n : ℕ) (ts : List TermTree) → terms_key n (terms ts) ≡ fold term_key n ts
keys_of_terms n [] = refl
keys_of_terms n (t ∷ ts) = keys_of_terms (term_key n t) ts
