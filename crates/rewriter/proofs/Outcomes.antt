-- Facts about what a call answered.
use Rattle.std.proofs.Common.{suc, ◌≡◌, List, [], ◌∷◌, map, length, refl, ap}
use Rattle.spec_core.specs.declared.term.Term.{Term}
use Rattle.spec_core.specs.Terms.{terms, term_of, width}

pub width_terms : (xs : List Term) → width (terms (map term_of xs)) ≡ length xs
width_terms [] = refl
width_terms (x ∷ xs) = ap suc (width_terms xs)
