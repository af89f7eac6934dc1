-- Terms that are provably equal have one sort.
use Rattle.std.proofs.Common.{ℕ, ◌≡◌, List, [], ◌∷◌, sym, subst, ◌∙◌, inl, inr}
use Rattle.std.specs.List.{slice_get}
use Rattle.spec_core.specs.Terms.{TermTree, TermTrees, variable, apply}
use Rattle.spec_core.specs.Theories.{Theory}
use Rattle.spec_core.specs.Sorts.{HasSort, HaveSorts, HaveOneSort, no_variables, EquationFits, FitsData}
use Rattle.spec_core.specs.Equality.{Equal, AreEqual, none_equal, more_equal, by_reflexivity, by_symmetry, by_transitivity, by_congruence}
use Rattle.spec_core.specs.Equality.{by_equation}
use Rattle.spec_core.proofs.Instances.{on_map, on_both, instance_sort}
use Rattle.spec_core.proofs.Members.{each_one}

-- a ground term has one sort
one_sort : (theory : Theory) (t : TermTree) (a b : ℕ) → HasSort theory no_variables t a → HasSort theory no_variables t b → a ≡ b
one_sort theory (variable x) a b h k = let n : ⊥ = cc in absurd n
one_sort theory (apply f ts) a b h k = on_both (slice_get theory.operations f) h k (λ d p q. sym p.0 ∙ q.0)

module _ (theory : Theory) (fits : FitsData theory) where
  mutual
    pub have_one_sort : {a b : TermTree} → Equal theory a b → HaveOneSort theory no_variables a b
    have_one_sort (by_reflexivity h) = (h.0, h.1, h.1)
    have_one_sort (by_symmetry p) = let r = have_one_sort p in (r.0, r.2, r.1)
    have_one_sort {a} {b} (by_transitivity c p q) =
        let r = have_one_sort p in
        let s = have_one_sort q in
        (s.0, subst (λ (sort : ℕ). HasSort theory no_variables a sort) (one_sort theory c r.0 s.0 r.2 s.1) r.1, s.2)
    have_one_sort (by_congruence {f = f} h p) =
        (h.0, h.1, on_map (slice_get theory.operations f) h.1 (λ d q. (q.0, have_the_sorts p d.args q.1)))
    have_one_sort {a} {b} (by_equation e s i ground premises l r) =
        let k = each_one (EquationFits theory) theory.equations e fits.equations i in
        let left = instance_sort theory (slice_get e.sorts) s e.left k.sides.0 k.sides.1 (λ x c o d. ground x c (inl o) d) in
        let right = instance_sort theory (slice_get e.sorts) s e.right k.sides.0 k.sides.2 (λ x c o d. ground x c (inr (inl o)) d) in (
          k.sides.0,
          subst (λ (t : TermTree). HasSort theory no_variables t k.sides.0) (sym l) left,
          subst (λ (t : TermTree). HasSort theory no_variables t k.sides.0) (sym r) right,
        )

    have_the_sorts : {ts us : TermTrees} → AreEqual theory ts us → (sorts : List ℕ) → HaveSorts theory no_variables ts sorts →
        HaveSorts theory no_variables us sorts
    have_the_sorts none_equal sorts h = h
    have_the_sorts (more_equal p ps) [] h = absurd h
    have_the_sorts (more_equal {t = t} {u = u} p ps) (c ∷ sorts) h =
        let r = have_one_sort p in
        (subst (λ (sort : ℕ). HasSort theory no_variables u sort) (one_sort theory t r.0 c r.1 h.0) r.2, have_the_sorts ps sorts h.1)
