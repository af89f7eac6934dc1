-- A pattern is covered where all are to which it is opened, and one that no row meets has a value that none covers.
use Rattle.std.proofs.Common.{ℕ, zero, suc, ◌≡◌, ◌+◌, List, [], ◌∷◌, Option, Some, None, refl, sym, ap, subst, ◌∙◌, arith, inl, inr, ◌⊎◌}
use Rattle.std.specs.List.{slice_get}
use Rattle.std.proofs.lemmas.Option.{same_Some}
use Rattle.spec_core.specs.Lists.{Each, OneOf}
use Rattle.spec_core.specs.Terms.{TermTree, TermTrees, variable, apply, no_terms, and_term}
use Rattle.spec_core.specs.Theories.{Operation, Theory}
use Rattle.spec_core.specs.Sorts.{OnSome, HasSort, HaveSorts, no_variables}
use Rattle.spec_core.specs.Constructors.{IsConstructor, IsConstructed, AreConstructed}
use Rattle.equation_shapes.specs.Shapes.{IsOfShape, AreOfShape, MeetAll}
use Rattle.equation_shapes.proofs.Linear.{all_shapes}
use Rattle.cover_search.specs.Sorts.{IsInhabited}
use Rattle.cover_search.proofs.Options.{both_on, on_some}
use Rattle.cover_search.specs.Makers.{IsMaker, IsMade, AreMade}
use Rattle.cover_search.specs.Search.{variables, or_else, faced, faced_any, first_faced, opened, opened_any, OpenBy, IsCovered, IsUncovered}

mutual
  pub shape_chain : (r p v : TermTree) → IsOfShape r p → IsOfShape p v → IsOfShape r v
  shape_chain (variable x) p v h k = tt
  shape_chain (apply g rs) (variable x) v h k = absurd h
  shape_chain (apply g rs) (apply f ps) (variable y) h k = absurd k
  shape_chain (apply g rs) (apply f ps) (apply i vs) h k = (h.0 ∙ k.0, shapes_chain rs ps vs h.1 k.1)

  pub shapes_chain : (rs ps vs : TermTrees) → AreOfShape rs ps → AreOfShape ps vs → AreOfShape rs vs
  shapes_chain no_terms no_terms vs h k = k
  shapes_chain no_terms (and_term p ps) vs h k = absurd h
  shapes_chain (and_term r rs) no_terms vs h k = absurd h
  shapes_chain (and_term r rs) (and_term p ps) no_terms h k = absurd k
  shapes_chain (and_term r rs) (and_term p ps) (and_term v vs) h k = (shape_chain r p v h.0 k.0, shapes_chain rs ps vs h.1 k.1)

pub or_else_some : (o q : Option ℕ) (s : ℕ) → or_else o q ≡ Some s → (o ≡ Some s) ⊎ ((o ≡ None) × (q ≡ Some s))
or_else_some None q s e = inr (refl, e)
or_else_some (Some x) q s e = inl e

module _ (theory : Theory) where
  -- the part of a value that stands where the row's first operation faces a variable of the pattern
  record Faces (r p v : TermTree) (s : ℕ) : Type 0 where
    pub part : TermTree
    pub sorted : HasSort theory no_variables part s
    pub constructed : IsConstructed theory part
    pub lifts : (u : TermTree) → IsOfShape u part → IsOfShape (opened u r p) v

  record FaceAll (rs ps vs : TermTrees) (s : ℕ) : Type 0 where
    pub part : TermTree
    pub sorted : HasSort theory no_variables part s
    pub constructed : IsConstructed theory part
    pub lifts : (u : TermTree) → IsOfShape u part → AreOfShape (opened_any u rs ps) vs

  mutual
    at_faced : (r p v : TermTree) (s sort : ℕ) → faced r p ≡ Some s → HasSort theory Some p sort → HasSort theory no_variables v sort →
        IsConstructed theory v → IsOfShape p v → Faces r p v s
    at_faced (variable x) p v s sort e hp hv c h = absurd (cc)
    at_faced (apply g rs) (variable t) v s sort e hp hv c h =
        record { part = v; sorted = subst (HasSort theory no_variables v) (same_Some _ _ (sym hp ∙ e)) hv; constructed = c; lifts = λ u k. k }
    at_faced (apply g rs) (apply f ps) (variable y) s sort e hp hv c h = absurd c
    at_faced (apply g rs) (apply f ps) (apply i vs) s sort e hp hv c h =
        let k = both_on (slice_get theory.operations f) (λ d. (d.result ≡ sort) × HaveSorts theory Some ps d.args) (λ d. (d.result ≡ sort) × HaveSorts theory no_variables vs d.args) hp (subst (λ n. OnSome (slice_get theory.operations n) (λ d. (d.result ≡ sort) × HaveSorts theory no_variables vs d.args)) (sym h.0) hv) in
        let r = at_faced_any rs ps vs s k.0.args e k.2.1 k.3.1 c.1 h.1 in
        record { part = r.part; sorted = r.sorted; constructed = r.constructed; lifts = λ u m. (h.0, r.lifts u m) }

    at_faced_any : (rs ps vs : TermTrees) (s : ℕ) (sorts : List ℕ) → faced_any rs ps ≡ Some s → HaveSorts theory Some ps sorts →
        HaveSorts theory no_variables vs sorts → AreConstructed theory vs → AreOfShape ps vs → FaceAll rs ps vs s
    at_faced_any no_terms ps vs s sorts e hp hv c h = absurd (cc)
    at_faced_any (and_term r rs) no_terms vs s sorts e hp hv c h = absurd (cc)
    at_faced_any (and_term r rs) (and_term p ps) no_terms s sorts e hp hv c h = absurd h
    at_faced_any (and_term r rs) (and_term p ps) (and_term v vs) s [] e hp hv c h = absurd hp
    at_faced_any (and_term r rs) (and_term p ps) (and_term v vs) s (sort ∷ sorts) e hp hv c h =
        elim (or_else_some (faced r p) (faced_any rs ps) s e) [
          | inl e ↦ let x = at_faced r p v s sort e hp.0 hv.0 c.0 h.0 in
              record { part = x.part; sorted = x.sorted; constructed = x.constructed; lifts = λ u m. subst (λ o. AreOfShape (first_faced o (and_term (opened u r p) ps) (and_term p (opened_any u rs ps))) (and_term v vs)) (sym e) (x.lifts u m, h.1) }
          | inr e ↦ let x = at_faced_any rs ps vs s sorts e.1 hp.1 hv.1 c.1 h.1 in
              record { part = x.part; sorted = x.sorted; constructed = x.constructed; lifts = λ u m. subst (λ o. AreOfShape (first_faced o (and_term (opened u r p) ps) (and_term p (opened_any u rs ps))) (and_term v vs)) (sym e.0) (h.0, x.lifts u m) }
        ]

  -- opening keeps sorts
  mutual
    opened_sort : (u r p : TermTree) (s sort : ℕ) → faced r p ≡ Some s → HasSort theory Some p sort → HasSort theory Some u s →
        HasSort theory Some (opened u r p) sort
    opened_sort u (variable x) p s sort e hp hu = absurd (cc)
    opened_sort u (apply g rs) (variable t) s sort e hp hu = subst (HasSort theory Some u) (same_Some _ _ (sym e ∙ hp)) hu
    opened_sort u (apply g rs) (apply f ps) s sort e hp hu =
        let k = on_some (slice_get theory.operations f) (λ d. (d.result ≡ sort) × HaveSorts theory Some ps d.args) hp in
        subst (λ o. OnSome o (λ d. (d.result ≡ sort) × HaveSorts theory Some (opened_any u rs ps) d.args)) (sym k.1) (k.2.0, opened_sorts u rs ps s k.0.args e k.2.1 hu)

    opened_sorts : (u : TermTree) (rs ps : TermTrees) (s : ℕ) (sorts : List ℕ) → faced_any rs ps ≡ Some s →
        HaveSorts theory Some ps sorts → HasSort theory Some u s → HaveSorts theory Some (opened_any u rs ps) sorts
    opened_sorts u no_terms ps s sorts e hp hu = absurd (cc)
    opened_sorts u (and_term r rs) no_terms s sorts e hp hu = absurd (cc)
    opened_sorts u (and_term r rs) (and_term p ps) s [] e hp hu = absurd hp
    opened_sorts u (and_term r rs) (and_term p ps) s (sort ∷ sorts) e hp hu =
        elim (or_else_some (faced r p) (faced_any rs ps) s e) [
          | inl e ↦ subst (λ o. HaveSorts theory Some (first_faced o (and_term (opened u r p) ps) (and_term p (opened_any u rs ps))) (sort ∷ sorts)) (sym e) (opened_sort u r p s sort e hp.0 hu, hp.1)
          | inr e ↦ subst (λ o. HaveSorts theory Some (first_faced o (and_term (opened u r p) ps) (and_term p (opened_any u rs ps))) (sort ∷ sorts)) (sym e.0) (hp.0, opened_sorts u rs ps s sorts e.1 hp.1 hu)
        ]

  first_made : (o : Option ℕ) (one other : TermTrees) → AreMade theory one → AreMade theory other → AreMade theory (first_faced o one other)
  first_made (Some s) one other h k = h
  first_made None one other h k = k

  mutual
    opened_made : (u r p : TermTree) → IsMade theory p → IsMade theory u → IsMade theory (opened u r p)
    opened_made u (variable x) p hp hu = hp
    opened_made u (apply g rs) (variable t) hp hu = hu
    opened_made u (apply g rs) (apply f ps) hp hu = (hp.0, all_opened_made u rs ps hp.1 hu)

    all_opened_made : (u : TermTree) (rs ps : TermTrees) → AreMade theory ps → IsMade theory u → AreMade theory (opened_any u rs ps)
    all_opened_made u no_terms ps hp hu = hp
    all_opened_made u (and_term r rs) no_terms hp hu = tt
    all_opened_made u (and_term r rs) (and_term p ps) hp hu =
        first_made (faced r p) _ _ (opened_made u r p hp.0 hu, hp.1) (hp.0, all_opened_made u rs ps hp.1 hu)

  -- such a pattern has an instance of ground constructor terms
  mutual
    pub fill : (t : TermTree) (sort : ℕ) → IsMade theory t → HasSort theory Some t sort →
        (v : TermTree) × HasSort theory no_variables v sort × IsConstructed theory v × IsOfShape t v
    fill (variable s) sort m h = (m.0, subst (HasSort theory no_variables m.0) (same_Some _ _ h) m.1, m.2, tt)
    fill (apply c ts) sort m h =
        let k = on_some (slice_get theory.operations c) (λ d. (d.result ≡ sort) × HaveSorts theory Some ts d.args) h in
        let r = fill_all ts k.0.args m.1 k.2.1 in
        (apply c r.0, subst (λ o. OnSome o (λ d. (d.result ≡ sort) × HaveSorts theory no_variables r.0 d.args)) (sym k.1) (k.2.0, r.1), (m.0, r.2), (refl, r.3))

    pub fill_all : (ts : TermTrees) (sorts : List ℕ) → AreMade theory ts → HaveSorts theory Some ts sorts →
        (vs : TermTrees) × HaveSorts theory no_variables vs sorts × AreConstructed theory vs × AreOfShape ts vs
    fill_all no_terms [] m h = (no_terms, tt, tt, tt)
    fill_all no_terms (s ∷ sorts) m h = absurd h
    fill_all (and_term t ts) [] m h = absurd h
    fill_all (and_term t ts) (s ∷ sorts) m h =
        let a = fill t s m.0 h.0 in
        let b = fill_all ts sorts m.1 h.1 in
        (and_term a.0 b.0, (a.1, b.1), (a.2, b.2), (a.3, b.3))

  pub variables_sorts : (sorts : List ℕ) → HaveSorts theory Some (variables sorts) sorts
  variables_sorts [] = tt
  variables_sorts (s ∷ sorts) = (refl, variables_sorts sorts)

  pub variables_made : (sorts : List ℕ) → Each (IsInhabited theory) sorts → AreMade theory (variables sorts)
  variables_made [] h = tt
  variables_made (s ∷ sorts) h = (h.0, variables_made sorts h.1)

  pub variables_shape : (vs : TermTrees) (sorts : List ℕ) → HaveSorts theory no_variables vs sorts → AreOfShape (variables sorts) vs
  variables_shape no_terms [] h = tt
  variables_shape no_terms (s ∷ sorts) h = absurd h
  variables_shape (and_term v vs) [] h = absurd h
  variables_shape (and_term v vs) (s ∷ sorts) h = (tt, variables_shape vs sorts h.1)

  pub inhabited_by : (vs : TermTrees) (sorts : List ℕ) → HaveSorts theory no_variables vs sorts → AreConstructed theory vs →
      Each (IsInhabited theory) sorts
  inhabited_by no_terms [] h c = tt
  inhabited_by no_terms (s ∷ sorts) h c = absurd h
  inhabited_by (and_term v vs) [] h c = absurd h
  inhabited_by (and_term v vs) (s ∷ sorts) h c = ((v, h.0, c.0), inhabited_by vs sorts h.1 c.1)

  -- what is opened by a constructor that has values is one of the patterns
  opened_by : (s : ℕ) (row ps : TermTrees) (n : ℕ) (ds : List Operation) (qs : List TermTrees) → OpenBy theory s row ps n ds qs →
      (i c : ℕ) (d : Operation) → c ≡ n + i → slice_get ds i ≡ Some d → IsMaker theory s c d →
      OneOf (λ q. opened_any (apply c (variables d.args)) row ps ≡ q) qs
  opened_by s row ps n [] qs o i c d e at m = absurd (cc)
  opened_by s row ps n (x ∷ ds) qs (inl o) zero c d e at m =
      let a : x ≡ d = same_Some _ _ at in
      let b : c ≡ n = omega (arith, e) in
      subst (OneOf (λ q. opened_any (apply c (variables d.args)) row ps ≡ q)) (sym o.1.1) (inl (ap (λ k. opened_any (apply k (variables d.args)) row ps) b ∙ ap (λ y. opened_any (apply n (variables y.args)) row ps) (sym a)))
  opened_by s row ps n (x ∷ ds) qs (inr o) zero c d e at m =
      let a : d ≡ x = same_Some _ _ (sym at) in
      let b : c ≡ n = omega (arith, e) in
      absurd (o.0 (subst (IsMaker theory s n) a (subst (λ k. IsMaker theory s k d) b m)))
  opened_by s row ps n (x ∷ ds) qs (inl o) (suc i) c d e at m =
      subst (OneOf (λ q. opened_any (apply c (variables d.args)) row ps ≡ q)) (sym o.1.1) (inr (opened_by s row ps (suc n) ds o.1.0 o.1.2 i c d (omega (arith, e)) at m))
  opened_by s row ps n (x ∷ ds) qs (inr o) (suc i) c d e at m = opened_by s row ps (suc n) ds qs o.1 i c d (omega (arith, e)) at m

  chosen : (P : TermTrees → Type 0) (q : TermTrees) (qs : List TermTrees) → Each P qs → OneOf (λ p. q ≡ p) qs → P q
  chosen P q [] h o = absurd o
  chosen P q (p ∷ qs) h (inl o) = subst P (sym o) h.0
  chosen P q (p ∷ qs) h (inr o) = chosen P q qs h.1 o

  -- what the opened patterns are

  pub all_sorted : (s : ℕ) (row ps : TermTrees) (n : ℕ) (ds : List Operation) (qs : List TermTrees) (sorts : List ℕ) →
      ((i : ℕ) → slice_get ds i ≡ slice_get theory.operations (n + i)) → faced_any row ps ≡ Some s → OpenBy theory s row ps n ds qs →
      HaveSorts theory Some ps sorts → Each (λ q. HaveSorts theory Some q sorts) qs
  all_sorted s row ps n [] qs sorts at e o hs = subst (Each (λ q. HaveSorts theory Some q sorts)) (sym o) tt
  all_sorted s row ps n (d ∷ ds) qs sorts at e (inr o) hs =
      all_sorted s row ps (suc n) ds qs sorts (λ i. at (suc i) ∙ ap (slice_get theory.operations) (let k : n + suc i ≡ suc n + i = omega arith in k)) e o.1 hs
  all_sorted s row ps n (d ∷ ds) qs sorts at e (inl o) hs =
      let u = apply n (variables d.args) in
      let here : slice_get theory.operations n ≡ Some d = ap (slice_get theory.operations) (let k : n ≡ n + 0 = omega arith in k) ∙ sym (at 0) in
      let sorted : HasSort theory Some u s = subst (λ o. OnSome o (λ x. (x.result ≡ s) × HaveSorts theory Some (variables d.args) x.args)) (sym here) (o.0.1, variables_sorts d.args) in
      subst (Each (λ q. HaveSorts theory Some q sorts)) (sym o.1.1) (
        opened_sorts u row ps s sorts e hs sorted,
        all_sorted s row ps (suc n) ds o.1.0 sorts (λ i. at (suc i) ∙ ap (slice_get theory.operations) (let k : n + suc i ≡ suc n + i = omega arith in k)) e o.1.2 hs,
      )

  pub all_made : (s : ℕ) (row ps : TermTrees) (n : ℕ) (ds : List Operation) (qs : List TermTrees) → OpenBy theory s row ps n ds qs →
      AreMade theory ps → Each (AreMade theory) qs
  all_made s row ps n [] qs o m = subst (Each (AreMade theory)) (sym o) tt
  all_made s row ps n (d ∷ ds) qs (inr o) m = all_made s row ps (suc n) ds qs o.1 m
  all_made s row ps n (d ∷ ds) qs (inl o) m = subst (Each (AreMade theory)) (sym o.1.1)
      (all_opened_made (apply n (variables d.args)) row ps m (o.0.0, variables_made d.args o.0.2), all_made s row ps (suc n) ds o.1.0 o.1.2 m)

  module _ (rows : List TermTrees) where
    pub covers_through : (ps vs : TermTrees) (rs : List TermTrees) → AreOfShape ps vs → OneOf (λ r. AreOfShape r ps) rs →
        OneOf (λ r. AreOfShape r vs) rs
    covers_through ps vs [] h o = absurd o
    covers_through ps vs (r ∷ rs) h (inl o) = inl (shapes_chain r ps vs o h)
    covers_through ps vs (r ∷ rs) h (inr o) = inr (covers_through ps vs rs h o)

    -- where all opened patterns are covered, the pattern is
    pub covered_by_all : (ps row : TermTrees) (s : ℕ) (qs : List TermTrees) (sorts : List ℕ) (vs : TermTrees) → faced_any row ps ≡ Some s →
        OpenBy theory s row ps 0 theory.operations qs → HaveSorts theory Some ps sorts → Each (IsCovered theory rows sorts) qs →
        HaveSorts theory no_variables vs sorts → AreConstructed theory vs → AreOfShape ps vs → OneOf (λ r. AreOfShape r vs) rows
    covered_by_all ps row s qs sorts vs at opens hp all hv c h =
        let x = at_faced_any row ps vs s sorts at hp hv c h in
        by_part x.part x.sorted x.constructed x.lifts
      where
        by_part : (v : TermTree) → HasSort theory no_variables v s → IsConstructed theory v → ((u : TermTree) → IsOfShape u v → AreOfShape (opened_any u row ps) vs) → OneOf (λ r. AreOfShape r vs) rows
        by_part (variable y) hs hc lift = absurd hc
        by_part (apply k ws) hs hc lift =
            let d = on_some (slice_get theory.operations k) (λ d. (d.result ≡ s) × HaveSorts theory no_variables ws d.args) hs in
            let maker : IsMaker theory s k d.0 = (hc.0, d.2.0, inhabited_by ws d.0.args d.2.1 hc.1) in
            let one : IsCovered theory rows sorts (opened_any (apply k (variables d.0.args)) row ps) = chosen (IsCovered theory rows sorts) (opened_any (apply k (variables d.0.args)) row ps) qs all
            (opened_by s row ps 0 theory.operations qs opens k k d.0 (omega arith) d.1 maker) in
            one vs hv c (lift (apply k (variables d.0.args)) (refl, variables_shape ws d.0.args d.2.1))

    none_covers : (q vs : TermTrees) (rs : List TermTrees) → AreOfShape q vs → Each (λ r. MeetAll r q → ⊥) rs →
        OneOf (λ r. AreOfShape r vs) rs → ⊥
    none_covers q vs [] h k o = o
    none_covers q vs (r ∷ rs) h k (inl o) = k.0 (all_shapes r q vs o h)
    none_covers q vs (r ∷ rs) h k (inr o) = none_covers q vs rs h k.1 o

    -- some value of a pattern that no row meets is covered by none
    pub some_uncovered : (q : TermTrees) (sorts : List ℕ) → IsUncovered theory rows sorts q →
        (vs : TermTrees) × HaveSorts theory no_variables vs sorts × AreConstructed theory vs × (OneOf (λ r. AreOfShape r vs) rows → ⊥)
    some_uncovered q sorts u =
        let v = fill_all q sorts u.made u.sorted in
        (v.0, v.1, v.2, none_covers q v.0 rows v.3 u.unmet)
