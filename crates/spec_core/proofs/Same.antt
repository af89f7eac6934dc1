-- Lists of terms and what they stand for.
use Rattle.std.proofs.Common.{◌≡◌, ℕ, ◌<◌, List, [], ◌∷◌, length, map, get_or, ap, sym, ◌∙◌, refl, arith}
use Rattle.std.proofs.lemmas.List.{get_or-map}
use Rattle.spec_core.specs.declared.term.Term.{Term}
use Rattle.spec_core.specs.Terms.{TermTree, terms, term_of}

pub terms_one : (xs ys : List TermTree) → terms xs ≡ terms ys → xs ≡ ys
terms_one [] [] e = refl
terms_one [] (y ∷ ys) e = cc
terms_one (x ∷ xs) [] e = cc
terms_one (x ∷ xs) (y ∷ ys) e =
    let h : x ≡ y = cc in
    let t : terms xs ≡ terms ys = cc in
    let r = terms_one xs ys t in
    cc

pub lengths : (xs ys : List Term) → terms (map term_of xs) ≡ terms (map term_of ys) → length xs ≡ length ys
lengths [] [] e = refl
lengths [] (y ∷ ys) e = cc
lengths (x ∷ xs) [] e = cc
lengths (x ∷ xs) (y ∷ ys) e =
    let t : terms (map term_of xs) ≡ terms (map term_of ys) = cc in
    let r = lengths xs ys t in
    grind arith

pub same_at : (xs ys : List Term) (i : ℕ) (d e : Term) →
    terms (map term_of xs) ≡ terms (map term_of ys) → i < length xs → term_of (get_or xs i d) ≡ term_of (get_or ys i e)
same_at xs ys i d e same within =
    let n = lengths xs ys same in
    let within' : i < length ys = omega arith in
    sym (get_or-map term_of xs i d (term_of d) within)
    ∙ ap (λ (l : List TermTree). get_or l i (term_of d)) (terms_one _ _ same)
    ∙ get_or-map term_of ys i e (term_of d) within'
