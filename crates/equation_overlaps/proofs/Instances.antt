-- Instances of terms, one by one.
use Rattle.std.proofs.Common.{ℕ, ◌≡◌, ◌<◌, ◌≤◌, ◌+◌, List, [], ◌∷◌, ◌++◌, length, map, take, get_or, refl, sym, ap, ◌∙◌}
use Rattle.std.proofs.lemmas.List.{map-append, take_all}
use Rattle.spec_core.specs.declared.term.Term.{Term}
use Rattle.spec_core.specs.Terms.{TermTree, TermTrees, and_term, instance, instances, terms, term_of}
use Rattle.spec_core.proofs.Lists.{map_next}

abbrev Trees : List Term → TermTrees
Trees xs = terms (map term_of xs)

same_terms : (xs ys : List TermTree) → terms xs ≡ terms ys → xs ≡ ys
same_terms [] [] e = refl
same_terms [] (y ∷ ys) e = cc
same_terms (x ∷ xs) [] e = cc
same_terms (x ∷ xs) (y ∷ ys) e =
    let head : x ≡ y = cc in
    let tail : terms xs ≡ terms ys = cc in
    let rest = same_terms xs ys tail in
    cc

instances_listed : (s : ℕ → TermTree) (ts : List TermTree) → instances s (terms ts) ≡ terms (map (instance s) ts)
instances_listed s [] = refl
instances_listed s (t ∷ ts) = ap (and_term (instance s t)) (instances_listed s ts)

pub instances_next : (s : ℕ → TermTree) (xs : List Term) (i : ℕ) (x : Term) (old new : List Term) (t : Term) → i < length xs →
    x ≡ get_or xs i x → Trees old ≡ instances s (Trees (take i xs)) → term_of t ≡ instance s (term_of x) → new ≡ old ++ t ∷ [] →
    Trees new ≡ instances s (Trees (take (i + 1) xs))
instances_next s xs i x old new t w a before here pushed =
    let listed : map term_of old ≡ map (instance s) (map term_of (take i xs)) =
    same_terms (map term_of old) (map (instance s) (map term_of (take i xs))) (before ∙ instances_listed s (map term_of (take i xs))) in
    let more : map term_of new ≡ map (instance s) (map term_of (take i xs)) ++ instance s (term_of x) ∷ [] =
    ap (map term_of) pushed ∙ map-append term_of old (t ∷ []) ∙ ap (λ zs. zs ++ term_of t ∷ []) listed
    ∙ ap (λ z. map (instance s) (map term_of (take i xs)) ++ z ∷ []) here in
    let all : map (instance s) (map term_of (take (i + 1) xs)) ≡ map (instance s) (map term_of (take i xs)) ++ instance s (term_of x) ∷ [] =
    ap (map (instance s)) (map_next term_of xs i x w a) ∙ map-append (instance s) (map term_of (take i xs)) (term_of x ∷ []) in
    ap terms (more ∙ sym all) ∙ sym (instances_listed s (map term_of (take (i + 1) xs)))

pub instances_end : (s : ℕ → TermTree) (xs ys : List Term) (i : ℕ) (made : List Term) → length xs ≤ i → xs ≡ ys →
    Trees made ≡ instances s (Trees (take i xs)) → Trees made ≡ instances s (Trees ys)
instances_end s xs ys i made w same h =
    h ∙ ap (λ zs. instances s (Trees zs)) (take_all i xs w ∙ same)
