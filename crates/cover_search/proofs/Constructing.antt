-- The constructors of a sort.
use Rattle.std.proofs.Common.{ℕ, zero, suc, ◌≡◌, ◌∙◌, ◌<◌, ◌≤◌, ◌+◌, ◌-◌, refl, sym, ap, subst, arith, length, map, take, get_or, add-one, List, [], ◌∷◌, ◌++◌, drop, Bool, Some, inl, inr}
use Rattle.std.specs.List.{slice_get}
use Rattle.std.proofs.lemmas.List.{map-append, same_from_push, take_more}
use Rattle.std.proofs.lemmas.Option.{same_Some}
use Rattle.spec_core.specs.Constructors.{IsConstructor}
use Rattle.spec_core.specs.Sorts.{OnSome}
use Rattle.spec_core.specs.Terms.{TermTrees}
use Rattle.spec_core.specs.Numbers.{op_number}
use Rattle.spec_core.specs.Theories.{Operation, Theory, operation_of}
use Rattle.spec_core.specs.declared.items.Op.{Op}
use Rattle.spec_core.specs.declared.signature.OpDecl.{OpDecl}
use Rattle.cover_search.specs.Constructors.{IsConstructorOf, AreConstructorsBelow, IsConstructorAdded}
use Rattle.cover_search.specs.Makers.{IsMaker}
use Rattle.cover_search.specs.Search.{OpenBy, IsAlternative, IsOpened, AreAlternatives}
use Rattle.cover_search.specs.Sorts.{AreInhabited}
use Rattle.cover_search.proofs.Stacking.{makers_in, no_alternatives, one_more}

no_last : (rest : List ℕ) (c : ℕ) → rest ++ c ∷ [] ≡ [] → ⊥
no_last [] c e = cc
no_last (x ∷ rest) c e = cc

at_drop : {A : Type 0} (xs : List A) (n : ℕ) (x : A) → slice_get xs n ≡ Some x → drop n xs ≡ x ∷ drop (suc n) xs
at_drop [] n x e = absurd (let no : ⊥ = cc in no)
at_drop (y ∷ xs) zero x e = ap (λ z. z ∷ xs) (same_Some y x e)
at_drop (y ∷ xs) (suc n) x e = at_drop xs n x e

-- the numbers of the constructors before a place, the last one apart
pub last_parted : (cs : List Op) (place : ℕ) (d : Op) → 0 < place → place ≤ length cs →
    map op_number (take place cs) ≡ map op_number (take (place - 1) cs) ++ (get_or cs (place - 1) d).0 ∷ []
last_parted cs place d some inside =
    let e : place ≡ (place - 1) + 1 = omega (arith, some) in
    let within : place - 1 < length cs = omega (arith, some, inside) in
    ap (λ n. map op_number (take n cs)) e ∙ ap (map op_number) (take_more cs (place - 1) d within)
    ∙ map-append op_number (take (place - 1) cs) (get_or cs (place - 1) d ∷ [])

pub declared : (ops : List OpDecl) (n : ℕ) (d : OpDecl) → n < length ops → d ≡ get_or ops n d →
    slice_get (map operation_of ops) n ≡ Some (operation_of d)
declared [] n d within at = absurd (omega (arith, within))
declared (x ∷ ops) zero d within at = ap (λ y. Some (operation_of y)) (sym at)
declared (x ∷ ops) (suc n) d within at = declared ops n d (omega (arith, within)) at

module _ (theory : Theory) where
  -- an operation that is no constructor is none of any sort
  pub not_added : (c s : ℕ) (old : List ℕ) → (IsConstructor theory c → ⊥) → IsConstructorAdded theory s c old old
  not_added c s old n = inr ((λ k. n k.0), refl)

  -- one more operation
  pub constructors_next : (s i : ℕ) (old new : List ℕ) → AreConstructorsBelow theory s i old → IsConstructorAdded theory s i old new →
      AreConstructorsBelow theory s (i + 1) new
  constructors_next s i old new h a = rw add-one (go a)
    where
      go : IsConstructorAdded theory s i old new → AreConstructorsBelow theory s (suc i) new
      go (inl a) = inl (a.0, (old, a.1, h))
      go (inr a) = inr (a.0, subst (AreConstructorsBelow theory s i) (sym a.1) h)

-- the alternatives of the constructors of a sort are those of all operations
module _ (theory : Theory) (s : ℕ) (row ps : TermTrees) where
  one_before : (n : ℕ) (d : Operation) (old mid new : List TermTrees) → slice_get theory.operations n ≡ Some d →
      AreAlternatives theory s row ps (suc n) old mid → IsAlternative theory s row ps n d mid new → AreAlternatives theory s row ps n old new
  one_before n d old mid new there h a =
      let r = one_more theory s row ps n d (drop (suc n) theory.operations) h.0 old mid new h.1 h.2 a in
      (r.0, subst (λ ds. OpenBy theory s row ps n ds r.0) (sym (at_drop theory.operations n d there)) r.1, r.2)

  no_maker : (n : ℕ) (d : Operation) → slice_get theory.operations n ≡ Some d → (IsConstructorOf theory s n → ⊥) → IsMaker theory s n d → ⊥
  no_maker n d there not m = not (m.0, subst (λ o. OnSome o (λ d. d.result ≡ s)) (sym there) m.1)

  passed : (n : ℕ) (old new : List TermTrees) → n < length theory.operations → (IsConstructorOf theory s n → ⊥) →
      AreAlternatives theory s row ps (suc n) old new → AreAlternatives theory s row ps n old new
  passed n old new within not h =
      let d = some_at theory.operations n within in
      one_before n d.0 old new new d.1 h (inr (no_maker n d.0 d.1 not, refl))
    where
      some_at : (ds : List Operation) (n : ℕ) → n < length ds → (d : Operation) × (slice_get ds n ≡ Some d)
      some_at [] n within = absurd (omega (arith, within))
      some_at (d ∷ ds) zero within = (d, refl)
      some_at (d ∷ ds) (suc n) within = some_at ds n (omega (arith, within))

  -- so far, with the constructors of a list still to come
  pub record AreComing (cs : List ℕ) (old new : List TermTrees) : Type 0 where
    pub below : ℕ
    pub within : below ≤ length theory.operations
    pub constructors : AreConstructorsBelow theory s below cs
    pub alternatives : AreAlternatives theory s row ps below old new

  last_comes : (n : ℕ) (cs rest : List ℕ) (c : ℕ) (old new : List TermTrees) → n ≤ length theory.operations →
      AreConstructorsBelow theory s n cs → cs ≡ rest ++ c ∷ [] → AreAlternatives theory s row ps n old new →
      (c < length theory.operations) × IsConstructorOf theory s c × AreConstructorsBelow theory s c rest
      × AreAlternatives theory s row ps (suc c) old new
  last_comes zero cs rest c old new within h e a = absurd (no_last rest c (sym e ∙ h))
  last_comes (suc n) cs rest c old new within (inl h) e a =
      let same = same_from_push h.1.0 rest n c (sym h.1.1 ∙ e) in
      let here : n < length theory.operations = omega (arith, within) in (
        subst (λ k. k < length theory.operations) same.1 here,
        subst (IsConstructorOf theory s) same.1 h.0,
        subst (λ k. AreConstructorsBelow theory s k rest) same.1 (subst (AreConstructorsBelow theory s n) same.0 h.1.2),
        subst (λ k. AreAlternatives theory s row ps (suc k) old new) same.1 a,
      )
  last_comes (suc n) cs rest c old new within (inr h) e a =
      let here : n < length theory.operations = omega (arith, within) in
      last_comes n cs rest c old new (omega (arith, within)) h.1 e (passed n old new here h.0 a)

  none_comes : (n : ℕ) (old new : List TermTrees) → n ≤ length theory.operations → AreConstructorsBelow theory s n [] →
      AreAlternatives theory s row ps n old new → AreAlternatives theory s row ps 0 old new
  none_comes zero old new within h a = a
  none_comes (suc n) old new within (inl h) a = absurd (no_last h.1.0 n (sym h.1.1))
  none_comes (suc n) old new within (inr h) a =
      let here : n < length theory.operations = omega (arith, within) in
      none_comes n old new (omega (arith, within)) h.1 (passed n old new here h.0 a)

  -- at the beginning, at each constructor and at the end

  pub all_coming : (cs : List ℕ) (old : List TermTrees) → AreConstructorsBelow theory s (length theory.operations) cs → AreComing cs old old
  all_coming cs old h = record {
    below = length theory.operations;
    within = omega arith;
    constructors = h;
    alternatives = no_alternatives theory s row ps (length theory.operations) old (omega arith);
  }

  pub one_comes : (cs rest : List ℕ) (c : ℕ) (d : Operation) (set : List Bool) (old mid new : List TermTrees) → AreInhabited theory set →
      cs ≡ rest ++ c ∷ [] → slice_get theory.operations c ≡ Some d → AreComing cs old mid → IsOpened set row ps c d mid new →
      AreComing rest old new
  one_comes cs rest c d set old mid new exact e there h o =
      let l = last_comes h.below cs rest c old mid h.within h.constructors e h.alternatives in
      record {
        below = c;
        within = omega (arith, l.0);
        constructors = l.2;
        alternatives = one_before c d old mid new there l.3 (by o l.1);
      }
    where
      by : IsOpened set row ps c d mid new → IsConstructorOf theory s c → IsAlternative theory s row ps c d mid new
      by (inl i) k = inl ((k.0, subst (λ o. OnSome o (λ d. d.result ≡ s)) there k.1, (makers_in theory set d.args exact).0 i.0), i.1)
      by (inr i) k = inr ((λ m. i.0 ((makers_in theory set d.args exact).1 m.2)), i.1)

  pub constructor_within : (cs rest : List ℕ) (c : ℕ) (old new : List TermTrees) → cs ≡ rest ++ c ∷ [] → AreComing cs old new →
      c < length theory.operations
  constructor_within cs rest c old new e h = (last_comes h.below cs rest c old new h.within h.constructors e h.alternatives).0

  pub all_came : (cs : List ℕ) (old new : List TermTrees) → cs ≡ [] → AreComing cs old new → AreAlternatives theory s row ps 0 old new
  all_came cs old new e h = none_comes h.below old new h.within (subst (AreConstructorsBelow theory s h.below) e h.constructors) h.alternatives
