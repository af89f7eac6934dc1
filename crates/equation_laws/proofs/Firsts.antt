-- The first element of a list of which something holds is one.
use Rattle.std.proofs.Common.{ℕ, ◌≡◌, ◌⊎◌, List, [], ◌∷◌, ◌++◌, sym, subst, ◌∙◌, inl, inr}
use Rattle.spec_core.specs.Lists.{Each, IsOneOf, NoTwo}
use Rattle.spec_core.proofs.Lists.{each_middle}
use Rattle.equation_faults.specs.Firsts.{IsFirstOf, IsFirstRepeated}

-- of two elements at which a list is parted, both are one, or one stands before the other
abbrev Parted : {A : Type 0} → List A → List A → A → A → Type 0
Parted {A} as' cs x y = (x ≡ y) ⊎ ((m : List A) × (cs ≡ as' ++ x ∷ m)) ⊎ ((m : List A) × (as' ≡ cs ++ y ∷ m))

parted : {A : Type 0} (as' bs cs ds : List A) (x y : A) → as' ++ x ∷ bs ≡ cs ++ y ∷ ds → Parted as' cs x y
parted [] bs [] ds x y e = inl (let k : x ≡ y = cc in k)
parted [] bs (c ∷ cs) ds x y e = let k : c ∷ cs ≡ x ∷ cs = cc in inr (inl (cs, k))
parted (a ∷ as') bs [] ds x y e = let k : a ∷ as' ≡ y ∷ as' = cc in inr (inr (as', k))
parted {A} (a ∷ as') bs (c ∷ cs) ds x y e =
    let k : as' ++ x ∷ bs ≡ cs ++ y ∷ ds = cc in
    let l : a ≡ c = cc in
    further l (parted as' bs cs ds x y k)
  where
    further : a ≡ c → Parted as' cs x y → Parted (a ∷ as') (c ∷ cs) x y
    further l (inl p) = inl p
    further l (inr (inl p)) = let k : c ∷ cs ≡ a ∷ (as' ++ x ∷ p.0) = let q = p.1 in cc in inr (inl (p.0, k))
    further l (inr (inr p)) = let k : a ∷ as' ≡ c ∷ (cs ++ y ∷ p.0) = let q = p.1 in cc in inr (inr (p.0, k))

pub first-one : {A : Type 0} (P : A → Type 0) (xs : List A) (x y : A) → IsFirstOf P xs x → IsFirstOf P xs y → x ≡ y
first-one {A} P xs x y h k = by-parts (parted h.before h.behind k.before k.behind x y (sym h.parts ∙ k.parts))
  where
    by-parts : Parted h.before k.before x y → x ≡ y
    by-parts (inl e) = e
    by-parts (inr (inl p)) = absurd (each_middle (λ z. P z → ⊥) h.before p.0 x (subst (Each (λ z. P z → ⊥)) p.1 k.none_before) h.holds)
    by-parts (inr (inr p)) = absurd (each_middle (λ z. P z → ⊥) k.before p.0 y (subst (Each (λ z. P z → ⊥)) p.1 h.none_before) k.holds)

-- an element that stands again isn't behind elements of which no two are equal
twice : (as' bs : List ℕ) (x : ℕ) → NoTwo (λ y z. y ≡ z) (as' ++ x ∷ bs) → IsOneOf x as' → ⊥
twice [] bs x h o = o
twice (a ∷ as') bs x h (inl e) = each_middle (λ y. a ≡ y → ⊥) as' bs x h.0 (sym e)
twice (a ∷ as') bs x h (inr o) = twice as' bs x h.1 o

pub repeated-one : (xs : List ℕ) (x y : ℕ) → IsFirstRepeated xs x → IsFirstRepeated xs y → x ≡ y
repeated-one xs x y h k = by-parts (parted h.before h.behind k.before k.behind x y (sym h.parts ∙ k.parts))
  where
    by-parts : Parted h.before k.before x y → x ≡ y
    by-parts (inl e) = e
    by-parts (inr (inl p)) = absurd (twice h.before p.0 x (subst (NoTwo (λ y z. y ≡ z)) p.1 k.none_before) h.again)
    by-parts (inr (inr p)) = absurd (twice k.before p.0 y (subst (NoTwo (λ y z. y ≡ z)) p.1 h.none_before) k.again)
