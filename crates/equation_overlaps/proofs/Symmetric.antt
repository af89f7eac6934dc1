-- Being apart is symmetric.
use Rattle.std.proofs.Common.{ℕ, ◌≡◌, List, [], ◌∷◌, length, map, refl, sym, subst, ap, ◌∙◌, inl, inr, ◌⊎◌, arith}
use Rattle.std.proofs.lemmas.Bool.{cases_eq}
use Rattle.equation_sets.proofs.Members.{Distinct}
use Rattle.spec_core.specs.Lists.{Each, OneOf, IsOneOf}
use Rattle.spec_core.specs.Orthogonality.{IsLinear, HasNoLooseVariables, Gives, renamed, IsAmong, ExcludeEachOther}
use Rattle.spec_core.specs.Orthogonality.{AreApart}
use Rattle.spec_core.specs.Terms.{TermTree, TermTrees, variable, apply, no_terms, and_term, Occurs, OccursInAny}
use Rattle.spec_core.specs.Theories.{Premise, premise, ConditionalEquation, Theory, OccursInPremises}
use Rattle.equation_faults.specs.Variables.{variables}
use Rattle.equation_faults.proofs.Occurrences.{distinct}
use Rattle.equation_shapes.proofs.Linear.{of_shape}
use Rattle.equation_shapes.specs.Shapes.{IsOfShape}
use Rattle.equation_overlaps.specs.Renamings.{renamed_term, renamed_terms}
use Rattle.equation_overlaps.proofs.Naming.{shape_back, as_many, renamed_to}

-- the names at the same places of another list
abbrev back_by : {A : Type 0} → (A ⊎ (A → ⊥)) → ℕ → ℕ → ℕ
back_by (inl e) y n = y
back_by (inr h) y n = n

abbrev back : List ℕ → List ℕ → ℕ → ℕ
back [] ys z = z
back (x ∷ xs) [] z = z
back (x ∷ xs) (y ∷ ys) z = back_by (cases_eq z x) y (back xs ys z)

by_same : {A : Type 0} (d : A ⊎ (A → ⊥)) (y n : ℕ) → A → back_by d y n ≡ y
by_same (inl e) y n a = refl
by_same (inr h) y n a = absurd (h a)

by_other : {A : Type 0} (d : A ⊎ (A → ⊥)) (y n : ℕ) → (A → ⊥) → back_by d y n ≡ n
by_other (inl e) y n h = absurd (h e)
by_other (inr k) y n h = refl

same_map : (n m : ℕ → ℕ) (xs : List ℕ) → Each (λ x. n x ≡ m x) xs → map n xs ≡ map m xs
same_map n m [] h = refl
same_map n m (x ∷ xs) h = ap (λ k. k ∷ map n xs) h.0 ∙ ap (λ ks. m x ∷ ks) (same_map n m xs h.1)

apart_names : (x y : ℕ) (xs ys zs : List ℕ) → Each (λ z. x ≡ z → ⊥) zs → Each (λ z. back (x ∷ xs) (y ∷ ys) z ≡ back xs ys z) zs
apart_names x y xs ys [] h = tt
apart_names x y xs ys (z ∷ zs) h = (by_other (cases_eq z x) y (back xs ys z) (λ e. h.0 (sym e)), apart_names x y xs ys zs h.1)

backwards : (xs ys : List ℕ) → Distinct xs → length xs ≡ length ys → map (back xs ys) xs ≡ ys
backwards [] [] d n = refl
backwards [] (y ∷ ys) d n = absurd (omega (arith, n))
backwards (x ∷ xs) [] d n = absurd (omega (arith, n))
backwards (x ∷ xs) (y ∷ ys) d n =
    ap (λ k. k ∷ map (back (x ∷ xs) (y ∷ ys)) xs) (by_same (cases_eq x x) y (back xs ys x) refl)
    ∙ ap (λ ks. y ∷ ks) (same_map (back (x ∷ xs) (y ∷ ys)) (back xs ys) xs (apart_names x y xs ys xs d.0)
    ∙ backwards xs ys d.1 (omega (arith, n)))

-- names that lead back
module _ (m n : ℕ → ℕ) where
  mutual
    there_and_back : (t : TermTree) → ((x : ℕ) → Occurs x t → m (n x) ≡ x) → renamed_term m (renamed_term n t) ≡ t
    there_and_back (variable x) h = ap variable (h x refl)
    there_and_back (apply f ts) h = ap (apply f) (all_there_and_back ts h)

    all_there_and_back : (ts : TermTrees) → ((x : ℕ) → OccursInAny x ts → m (n x) ≡ x) → renamed_terms m (renamed_terms n ts) ≡ ts
    all_there_and_back no_terms h = refl
    all_there_and_back (and_term t ts) h =
        ap (λ u. and_term u (renamed_terms m (renamed_terms n ts))) (there_and_back t (λ x o. h x (inl o)))
        ∙ ap (and_term t) (all_there_and_back ts (λ x o. h x (inr o)))

  mutual
    leads_back : (t : TermTree) → renamed_term m (renamed_term n t) ≡ t → (x : ℕ) → Occurs x t → m (n x) ≡ x
    leads_back (variable y) e x o = let k : m (n y) ≡ y = cc in subst (λ z. m (n z) ≡ z) (sym o) k
    leads_back (apply f ts) e x o = let k : renamed_terms m (renamed_terms n ts) ≡ ts = cc in all_lead_back ts k x o

    all_lead_back : (ts : TermTrees) → renamed_terms m (renamed_terms n ts) ≡ ts → (x : ℕ) → OccursInAny x ts → m (n x) ≡ x
    all_lead_back no_terms e x o = absurd o
    all_lead_back (and_term t ts) e x (inl o) = let k : renamed_term m (renamed_term n t) ≡ t = cc in leads_back t k x o
    all_lead_back (and_term t ts) e x (inr o) = let k : renamed_terms m (renamed_terms n ts) ≡ ts = cc in all_lead_back ts k x o

  premise_back : (p : Premise) (ps : List Premise) → ((x : ℕ) → OccursInPremises x (p ∷ ps) → m (n x) ≡ x) → renamed m (renamed n p) ≡ p
  premise_back (premise a b) ps h =
      ap (λ t. premise t (renamed_term m (renamed_term n b))) (there_and_back a (λ x o. h x (inl o)))
      ∙ ap (premise a) (there_and_back b (λ x o. h x (inr (inl o))))

  later : (p : Premise) (ps : List Premise) → ((x : ℕ) → OccursInPremises x (p ∷ ps) → m (n x) ≡ x) → (x : ℕ) → OccursInPremises x ps →
      m (n x) ≡ x
  later (premise a b) ps h x o = h x (inr (inr o))

  listed_back : (ps : List Premise) (p : Premise) → ((x : ℕ) → OccursInPremises x ps → m (n x) ≡ x) → OneOf (λ q. p ≡ renamed n q) ps →
      IsOneOf (renamed m p) ps
  listed_back [] p h o = absurd o
  listed_back (q ∷ ps) p h (inl e) = inl (ap (renamed m) e ∙ premise_back q ps h)
  listed_back (q ∷ ps) p h (inr o) = inr (listed_back ps p (later q ps h) o)

listed_renamed : (m : ℕ → ℕ) (qs : List Premise) (p : Premise) → IsOneOf p qs → OneOf (λ q. renamed m p ≡ renamed m q) qs
listed_renamed m [] p o = absurd o
listed_renamed m (q ∷ qs) p (inl e) = inl (ap (renamed m) e)
listed_renamed m (q ∷ qs) p (inr o) = inr (listed_renamed m qs p o)

-- a premise under new names gives the term under new names the same constant
gives_renamed : (theory : Theory) (m : ℕ → ℕ) (p : Premise) (t : TermTree) (c : ℕ) → Gives theory p t c →
    Gives theory (renamed m p) (renamed_term m t) c
gives_renamed theory m p t c (k, inl e) = (k, inl (ap (renamed m) e))
gives_renamed theory m p t c (k, inr (inl e)) = (k, inr (inl (ap (renamed m) e)))
gives_renamed theory m p t c (k, inr (inr d)) =
    (k, inr (inr record { negation = d.negation; yes = d.yes; library = d.library; form = ap (renamed m) d.form }))

exclude_back : (theory : Theory) (e d : ConditionalEquation) → IsLinear d.left → HasNoLooseVariables e → ExcludeEachOther theory e d →
    ExcludeEachOther theory d e
exclude_back theory e d linear closed x =
    let n = x.name in
    let there : IsOfShape e.left d.left = subst (IsOfShape e.left) x.lefts (of_shape (λ y. variable (n y)) e.left) in
    let here : IsOfShape d.left e.left = subst (λ t. IsOfShape t e.left) x.lefts (shape_back n e.left) in
    let m = back (variables d.left) (variables e.left) in
    let lefts : renamed_term m d.left ≡ e.left =
    renamed_to m d.left e.left here there
    (backwards (variables d.left) (variables e.left) (distinct d.left linear) (as_many d.left e.left here there)) in
    let leads : (y : ℕ) → OccursInPremises y e.premises → m (n y) ≡ y =
    λ y o. leads_back m n e.left (ap (renamed_term m) x.lefts ∙ lefts) y (closed.premises y o) in
    let place : (p : Premise) → IsAmong n e.premises d.premises p → IsAmong m d.premises e.premises (renamed m p) =
    λ p a. elim a [ inl o ↦ inr (listed_back m n e.premises p leads o) | inr o ↦ inl (listed_renamed m d.premises p o) ] in
    record {
      name = m;
      lefts = lefts;
      p = renamed m x.p;
      q = renamed m x.q;
      term = renamed_term m x.term;
      one = x.one;
      other = x.other;
      here = place x.p x.here;
      there = place x.q x.there;
      gives_one = gives_renamed theory m x.p x.term x.one x.gives_one;
      gives_other = gives_renamed theory m x.q x.term x.other x.gives_other;
      differ = x.differ;
    }

pub symmetric : (theory : Theory) (e d : ConditionalEquation) → IsLinear e.left → IsLinear d.left → HasNoLooseVariables e →
    HasNoLooseVariables d → AreApart theory e d → AreApart theory d e
symmetric theory e d l k ce cd (inl apart) = inl (λ s z same. apart z s (sym same))
symmetric theory e d l k ce cd (inr x) = inr (exclude_back theory e d k ce x)
