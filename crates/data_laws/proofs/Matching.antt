-- Whether a term is an instance of another is decided.
use Rattle.std.proofs.Common.{⊎_elim, ℕ, ◌≡◌, refl, sym, ap, subst, inl, inr, ◌⊎◌, Option, Some, None}
use Rattle.spec_core.specs.Terms.{TermTree, TermTrees, variable, apply, no_terms, and_term, instance, instances, Occurs, OccursInAny}
use Rattle.spec_core.proofs.OneValue.{same_instance}
use Rattle.std.proofs.Math.Decide.{ℕ_discrete}

abbrev pub Tells : Type 0 → Type 0
Tells A = A ⊎ (A → ⊥)

pub either : {A B : Type 0} → Tells A → Tells B → Tells (A ⊎ B)
either (inl a) _ = inl (inl a)
either (inr h) (inl b) = inl (inr b)
either (inr h) (inr k) = inr (λ x. ⊎_elim h k x)

pub number : (n m : ℕ) → Tells (n ≡ m)
number n m = elim (ℕ_discrete n m) [ yes e ↦ inl e | no h ↦ inr h ]

both_same : (f g : ℕ) (ts us : TermTrees) → Tells (f ≡ g) → Tells (ts ≡ us) → Tells (apply f ts ≡ apply g us)
both_same f g ts us (inl e) (inl d) = inl (cc)
both_same f g ts us (inl e) (inr h) = inr (λ d. h (cc))
both_same f g ts us (inr h) _ = inr (λ d. h (cc))

both_and : (t u : TermTree) (ts us : TermTrees) → Tells (t ≡ u) → Tells (ts ≡ us) → Tells (and_term t ts ≡ and_term u us)
both_and t u ts us (inl e) (inl d) = inl (cc)
both_and t u ts us (inl e) (inr h) = inr (λ d. h (cc))
both_and t u ts us (inr h) _ = inr (λ d. h (cc))

-- whether two terms are equal
mutual
  pub same_term : (a b : TermTree) → Tells (a ≡ b)
  same_term (variable x) (variable y) = elim (number x y) [ inl e ↦ inl (ap variable e) | inr h ↦ inr (λ e. h (cc)) ]
  same_term (variable x) (apply g us) = inr (λ e. cc)
  same_term (apply f ts) (variable y) = inr (λ e. cc)
  same_term (apply f ts) (apply g us) = both_same f g ts us (number f g) (same_terms ts us)

  pub same_terms : (a b : TermTrees) → Tells (a ≡ b)
  same_terms no_terms no_terms = inl refl
  same_terms no_terms (and_term u us) = inr (λ e. cc)
  same_terms (and_term t ts) no_terms = inr (λ e. cc)
  same_terms (and_term t ts) (and_term u us) = both_and t u ts us (same_term t u) (same_terms ts us)

-- what stands in a term v where the variable first stands in l
abbrev pub or_else : Option TermTree → Option TermTree → Option TermTree
or_else (Some t) _ = Some t
or_else None o = o

abbrev pub at_variable : (x y : ℕ) → Tells (x ≡ y) → TermTree → Option TermTree
at_variable x y (inl e) v = Some v
at_variable x y (inr h) v = None

abbrev mutual
  pub guess : ℕ → TermTree → TermTree → Option TermTree
  guess x (variable y) v = at_variable x y (number x y) v
  guess x (apply f ps) (variable y) = None
  guess x (apply f ps) (apply g vs) = guess_any x ps vs

  pub guess_any : ℕ → TermTrees → TermTrees → Option TermTree
  guess_any x no_terms vs = None
  guess_any x (and_term p ps) no_terms = None
  guess_any x (and_term p ps) (and_term v vs) = or_else (guess x p v) (guess_any x ps vs)

abbrev pub Right : TermTree → Option TermTree → Type 0
Right t None = Unit {0}
Right t (Some u) = u ≡ t

right_variable : (s : ℕ → TermTree) (x y : ℕ) (d : Tells (x ≡ y)) → Right (s x) (at_variable x y d (s y))
right_variable s x y (inl e) = ap s (sym e)
right_variable s x y (inr h) = tt

right_or : (t : TermTree) (a b : Option TermTree) → Right t a → Right t b → Right t (or_else a b)
right_or t None b h k = k
right_or t (Some u) b h k = h

found_or : (t : TermTree) (a b : Option TermTree) → Right t a → b ≡ Some t → or_else a b ≡ Some t
found_or t None b h k = k
found_or t (Some u) b h k = ap Some h

found_variable : (s : ℕ → TermTree) (x y : ℕ) (d : Tells (x ≡ y)) → x ≡ y → at_variable x y d (s y) ≡ Some (s x)
found_variable s x y (inl e) q = ap (λ i. Some (s i)) (sym e)
found_variable s x y (inr h) q = absurd (h q)

module _ (s : ℕ → TermTree) (x : ℕ) where
  mutual
    right : (p : TermTree) → Right (s x) (guess x p (instance s p))
    right (variable y) = right_variable s x y (number x y)
    right (apply f ps) = right_any ps

    right_any : (ps : TermTrees) → Right (s x) (guess_any x ps (instances s ps))
    right_any no_terms = tt
    right_any (and_term p ps) = right_or (s x) _ _ (right p) (right_any ps)

  mutual
    found : (p : TermTree) → Occurs x p → guess x p (instance s p) ≡ Some (s x)
    found (variable y) o = found_variable s x y (number x y) o
    found (apply f ps) o = found_any ps o

    found_any : (ps : TermTrees) → OccursInAny x ps → guess_any x ps (instances s ps) ≡ Some (s x)
    found_any no_terms o = absurd o
    found_any (and_term p ps) (inl o) = ap (λ i. or_else i (guess_any x ps (instances s ps))) (found p o)
    found_any (and_term p ps) (inr o) = found_or (s x) _ _ (right p) (found_any ps o)

abbrev pub or_variable : ℕ → Option TermTree → TermTree
or_variable x None = variable x
or_variable x (Some t) = t

-- the substitution that is tried
abbrev pub tried : TermTree → TermTree → ℕ → TermTree
tried l v x = or_variable x (guess x l v)

pub tried_fits : (s : ℕ → TermTree) (l : TermTree) → instance (tried l (instance s l)) l ≡ instance s l
tried_fits s l = same_instance (tried l (instance s l)) s l (λ x o. ap (or_variable x) (found s x l o))

pub matches : (l v : TermTree) → Tells ((s : ℕ → TermTree) × (instance s l ≡ v))
matches l v = elim (same_term (instance (tried l v) l) v) [
  | inl e ↦ inl (tried l v, e)
  | inr h ↦ inr (λ r. h (subst (λ w. instance (tried l w) l ≡ w) r.1 (tried_fits r.0 l)))
]
