-- Terms and lists of terms, element by element.
use Rattle.std.proofs.Common.{ℕ, zero, suc, ◌≡◌, ◌<◌, ◌+◌, List, [], ◌∷◌, ◌++◌, length, map, take, get_or, refl, ap, sym, subst, ◌∙◌}
use Rattle.std.proofs.Common.{arith, add-one, inl, inr, ◌⊎◌}
use Rattle.spec_core.specs.declared.term.Term.{Term}
use Rattle.spec_core.specs.Substitutions.{substitution_of}
use Rattle.spec_core.specs.Terms.{TermTree, TermTrees, variable, apply, and_term, terms, term_of, instance, instances, Occurs, OccursInAny}

pub instances-terms : (s : ℕ → TermTree) (xs : List TermTree) → terms (map (instance s) xs) ≡ instances s (terms xs)
instances-terms s [] = refl
instances-terms s (x ∷ xs) = ap (and_term (instance s x)) (instances-terms s xs)

-- what occurs in the first terms of a list, with one more of them
occurs-take-suc : (x : ℕ) (ts : List Term) (i : ℕ) (d : Term) →
    i < length ts → OccursInAny x (terms (map term_of (take (suc i) ts))) →
    OccursInAny x (terms (map term_of (take i ts))) ⊎ Occurs x (term_of (get_or ts i d))
occurs-take-suc x [] i d within o = absurd (omega arith)
occurs-take-suc x (t ∷ ts) zero d within (inl o) = inr o
occurs-take-suc x (t ∷ ts) zero d within (inr o) = absurd o
occurs-take-suc x (t ∷ ts) (suc i) d within (inl o) = inl (inl o)
occurs-take-suc x (t ∷ ts) (suc i) d within (inr o) = later (occurs-take-suc x ts i d (omega arith) o)
  where
    later : OccursInAny x (terms (map term_of (take i ts))) ⊎ Occurs x (term_of (get_or ts i d)) →
        (Occurs x (term_of t) ⊎ OccursInAny x (terms (map term_of (take i ts)))) ⊎ Occurs x (term_of (get_or ts i d))
    later (inl o) = inl (inr o)
    later (inr o) = inr o

pub occurs-next : (x : ℕ) (ts : List Term) (i : ℕ) (t : Term) →
    i < length ts → t ≡ get_or ts i t → OccursInAny x (terms (map term_of (take (i + 1) ts))) →
    OccursInAny x (terms (map term_of (take i ts))) ⊎ Occurs x (term_of t)
occurs-next x ts i t within at o =
    let o' : OccursInAny x (terms (map term_of (take (suc i) ts))) = rw (← add-one) o in
    let P : Term → Type 0 = λ u. OccursInAny x (terms (map term_of (take i ts))) ⊎ Occurs x (term_of u) in
    subst P (sym at) (occurs-take-suc x ts i t within o')

-- where the instances of some terms are some others, there are as many of them, and they are so place by place
pub instances-length : (s : ℕ → TermTree) (ps vs : List Term) →
    instances s (terms (map term_of ps)) ≡ terms (map term_of vs) → length ps ≡ length vs
instances-length s [] [] e = refl
instances-length s [] (v ∷ vs) e = cc
instances-length s (p ∷ ps) [] e = cc
instances-length s (p ∷ ps) (v ∷ vs) e =
    let h : instances s (terms (map term_of ps)) ≡ terms (map term_of vs) = cc in
    ap suc (instances-length s ps vs h)

pub instance-at : (s : ℕ → TermTree) (ps vs : List Term) (i : ℕ) (p v : Term) →
    instances s (terms (map term_of ps)) ≡ terms (map term_of vs) → i < length ps → p ≡ get_or ps i p → v ≡ get_or vs i v →
    instance s (term_of p) ≡ term_of v
instance-at s [] vs i p v e within a b = absurd (omega arith)
instance-at s (q ∷ ps) [] i p v e within a b = cc
instance-at s (q ∷ ps) (w ∷ vs) zero p v e within a b =
    let h : instance s (term_of q) ≡ term_of w = cc in
    ap (λ t. instance s (term_of t)) a ∙ h ∙ ap term_of (sym b)
instance-at s (q ∷ ps) (w ∷ vs) (suc i) p v e within a b =
    let h : instances s (terms (map term_of ps)) ≡ terms (map term_of vs) = cc in
    instance-at s ps vs i p v h (omega arith) a b

-- where a pattern over some terms becomes a value over others, the terms become those
pub parts_match : (s : ℕ → TermTree) (pattern value : TermTree) (f g : ℕ) (ps vs : TermTrees) →
    pattern ≡ apply f ps → value ≡ apply g vs → instance s pattern ≡ value → instances s ps ≡ vs
parts_match s pattern value f g ps vs a b e =
    let h : apply f (instances s ps) ≡ apply g vs = ap (instance s) (sym a) ∙ e ∙ b in cc

-- the substitution of a list with one more term
pub substitution-push : (bound : List Term) (t : Term) (x : ℕ) →
    x < length bound → substitution_of (map term_of (bound ++ t ∷ [])) x ≡ substitution_of (map term_of bound) x
substitution-push bound t x within = go bound x within
  where
    go : (bound : List Term) (i : ℕ) →
        i < length bound → get_or (map term_of (bound ++ t ∷ [])) i (variable x) ≡ get_or (map term_of bound) i (variable x)
    go [] i h = absurd (omega arith)
    go (b ∷ bs) zero h = refl
    go (b ∷ bs) (suc i) h = go bs i (omega arith)

pub substitution-last : (bound : List Term) (t : Term) (x : ℕ) →
    length bound ≡ x → substitution_of (map term_of (bound ++ t ∷ [])) x ≡ term_of t
substitution-last bound t x end = go bound x end
  where
    go : (bound : List Term) (i : ℕ) → length bound ≡ i → get_or (map term_of (bound ++ t ∷ [])) i (variable x) ≡ term_of t
    go [] zero h = refl
    go [] (suc i) h = absurd (omega arith)
    go (b ∷ bs) zero h = absurd (omega arith)
    go (b ∷ bs) (suc i) h = go bs i (omega arith)
