-- Equations exclude each other exactly where two premises clash under the one renaming of the left side.
use Rattle.std.proofs.Common.{ℕ, ◌≡◌, List, [], ◌∷◌, map, refl, sym, subst, ap, ◌∙◌, inl, inr, ◌⊎◌}
use Rattle.spec_core.specs.Lists.{OneOf, IsOneOf}
use Rattle.spec_core.specs.Orthogonality.{HasNoLooseVariables, renamed, IsAmong, ExcludeEachOther}
use Rattle.spec_core.specs.Terms.{TermTree, variable, Occurs}
use Rattle.spec_core.specs.Theories.{Premise, premise, ConditionalEquation, Theory, OccursInPremises}
use Rattle.spec_core.proofs.OneValue.{agree, same_instance}
use Rattle.equation_overlaps.specs.Exclusion.{Clash, SomeClash, CannotHold}
use Rattle.equation_overlaps.specs.Renamings.{renamed_term}

-- two renamings that make one term of another agree on its variables
same_names : (n m : ℕ → ℕ) (l r : TermTree) → renamed_term n l ≡ r → renamed_term m l ≡ r → (x : ℕ) → Occurs x l → n x ≡ m x
same_names n m l r a b x o =
    let e : variable (n x) ≡ variable (m x) = agree (λ y. variable (n y)) (λ y. variable (m y)) l (a ∙ sym b) x o in cc

-- and so they do the same to premises over these variables
same_premise : (n m : ℕ → ℕ) (p : Premise) (ps : List Premise) → ((x : ℕ) → OccursInPremises x (p ∷ ps) → n x ≡ m x) →
    renamed n p ≡ renamed m p
same_premise n m (premise a b) ps h =
    let l = same_instance (λ x. variable (n x)) (λ x. variable (m x)) a (λ x o. ap variable (h x (inl o))) in
    let r = same_instance (λ x. variable (n x)) (λ x. variable (m x)) b (λ x o. ap variable (h x (inr (inl o)))) in
    ap (λ t. premise t (renamed_term n b)) l ∙ ap (premise (renamed_term m a)) r

later : (p : Premise) (ps : List Premise) (n m : ℕ → ℕ) → ((x : ℕ) → OccursInPremises x (p ∷ ps) → n x ≡ m x) →
    (x : ℕ) → OccursInPremises x ps → n x ≡ m x
later (premise a b) ps n m h x o = h x (inr (inr o))

listed : (n m : ℕ → ℕ) (ps : List Premise) (p : Premise) → ((x : ℕ) → OccursInPremises x ps → n x ≡ m x) →
    OneOf (λ q. p ≡ renamed n q) ps → IsOneOf p (map (renamed m) ps)
listed n m [] p h o = absurd o
listed n m (q ∷ ps) p h (inl e) = inl (e ∙ same_premise n m q ps h)
listed n m (q ∷ ps) p h (inr o) = inr (listed n m ps p (later q ps n m h) o)

unlisted : (n : ℕ → ℕ) (ps : List Premise) (p : Premise) → IsOneOf p (map (renamed n) ps) → OneOf (λ q. p ≡ renamed n q) ps
unlisted n [] p o = absurd o
unlisted n (q ∷ ps) p (inl e) = inl e
unlisted n (q ∷ ps) p (inr o) = inr (unlisted n ps p o)

module _ (theory : Theory) where
  -- which two premises clash
  record TwoClash (ps qs : List Premise) : Type 0 where
    pub p : Premise
    pub q : Premise
    pub here : IsOneOf p ps
    pub there : IsOneOf q qs
    pub clash : Clash theory p q

  with_one : (p : Premise) (qs : List Premise) → OneOf (Clash theory p) qs → (q : Premise) × IsOneOf q qs × Clash theory p q
  with_one p [] o = absurd o
  with_one p (q ∷ qs) (inl c) = (q, inl refl, c)
  with_one p (q ∷ qs) (inr o) = let r = with_one p qs o in (r.0, inr r.1, r.2)

  which : (ps qs : List Premise) → SomeClash theory ps qs → TwoClash ps qs
  which [] qs o = absurd o
  which (p ∷ ps) qs (inl o) = let r = with_one p qs o in record { p = p; q = r.0; here = inl refl; there = r.1; clash = r.2 }
  which (p ∷ ps) qs (inr o) = let r = which ps qs o in record { p = r.p; q = r.q; here = inr r.here; there = r.there; clash = r.clash }

  with_this : (p q : Premise) (qs : List Premise) → IsOneOf q qs → Clash theory p q → OneOf (Clash theory p) qs
  with_this p q [] o c = absurd o
  with_this p q (r ∷ qs) (inl e) c = inl (subst (Clash theory p) e c)
  with_this p q (r ∷ qs) (inr o) c = inr (with_this p q qs o c)

  these : (p q : Premise) (ps qs : List Premise) → IsOneOf p ps → IsOneOf q qs → Clash theory p q → SomeClash theory ps qs
  these p q [] qs o k c = absurd o
  these p q (r ∷ ps) qs (inl e) k c = inl (subst (λ z. OneOf (Clash theory z) qs) e (with_this p q qs k c))
  these p q (r ∷ ps) qs (inr o) k c = inr (these p q ps qs o k c)

  flipped : (p q : Premise) → Clash theory p q → Clash theory q p
  flipped p q (t, c) = (
    t,
    record {
      one = c.other;
      other = c.one;
      gives_one = c.gives_other;
      gives_other = c.gives_one;
      differ = λ e. c.differ (sym e);
    },
  )

  excluding : (e d : ConditionalEquation) (n : ℕ → ℕ) (p q : Premise) → renamed_term n e.left ≡ d.left →
      IsAmong n e.premises d.premises p → IsAmong n e.premises d.premises q → Clash theory p q → ExcludeEachOther theory e d
  excluding e d n p q lefts here there (t, c) = record {
    name = n;
    lefts = lefts;
    p = p;
    q = q;
    term = t;
    one = c.one;
    other = c.other;
    here = here;
    there = there;
    gives_one = c.gives_one;
    gives_other = c.gives_other;
    differ = c.differ;
  }

  pub excluded : (e d : ConditionalEquation) (n : ℕ → ℕ) → renamed_term n e.left ≡ d.left →
      CannotHold theory (map (renamed n) e.premises) d.premises → ExcludeEachOther theory e d
  excluded e d n lefts (inl s) =
      let w = which (map (renamed n) e.premises) (map (renamed n) e.premises) s in
      excluding e d n w.p w.q lefts (inl (unlisted n e.premises w.p w.here)) (inl (unlisted n e.premises w.q w.there)) w.clash
  excluded e d n lefts (inr (inl s)) =
      let w = which (map (renamed n) e.premises) d.premises s in
      excluding e d n w.p w.q lefts (inl (unlisted n e.premises w.p w.here)) (inr w.there) w.clash
  excluded e d n lefts (inr (inr s)) =
      let w = which d.premises d.premises s in
      excluding e d n w.p w.q lefts (inr w.here) (inr w.there) w.clash

  by_places : (n : ℕ → ℕ) (ps qs : List Premise) (p q : Premise) → Clash theory p q →
      IsOneOf p (map (renamed n) ps) ⊎ IsOneOf p qs → IsOneOf q (map (renamed n) ps) ⊎ IsOneOf q qs → CannotHold theory (map (renamed n) ps) qs
  by_places n ps qs p q c (inl a) (inl b) = inl (these p q (map (renamed n) ps) (map (renamed n) ps) a b c)
  by_places n ps qs p q c (inl a) (inr b) = inr (inl (these p q (map (renamed n) ps) qs a b c))
  by_places n ps qs p q c (inr a) (inl b) = inr (inl (these q p (map (renamed n) ps) qs b a (flipped p q c)))
  by_places n ps qs p q c (inr a) (inr b) = inr (inr (these p q qs qs a b c))

  place : (n m : ℕ → ℕ) (ps qs : List Premise) (p : Premise) → ((x : ℕ) → OccursInPremises x ps → n x ≡ m x) →
      IsAmong n ps qs p → IsOneOf p (map (renamed m) ps) ⊎ IsOneOf p qs
  place n m ps qs p h (inl o) = inl (listed n m ps p h o)
  place n m ps qs p h (inr o) = inr o

  pub clashing : (e d : ConditionalEquation) (n : ℕ → ℕ) → HasNoLooseVariables e → renamed_term n e.left ≡ d.left →
      ExcludeEachOther theory e d → CannotHold theory (map (renamed n) e.premises) d.premises
  clashing e d n closed lefts x =
      let same : (y : ℕ) → OccursInPremises y e.premises → x.name y ≡ n y =
      λ y o. same_names x.name n e.left d.left x.lefts lefts y (closed.premises y o) in
      let clash : Clash theory x.p x.q = (
        x.term,
        record {
          one = x.one;
          other = x.other;
          gives_one = x.gives_one;
          gives_other = x.gives_other;
          differ = x.differ;
        },
      ) in
      by_places n e.premises d.premises x.p x.q clash (place x.name n e.premises d.premises x.p same x.here)
      (place x.name n e.premises d.premises x.q same x.there)
