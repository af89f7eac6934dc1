-- Linear terms are shapes: what is of their shape is an instance, and two that meet have a common instance.
use Rattle.std.proofs.Common.{ℕ, ◌≡◌, refl, sym, subst, ◌∙◌, inl, inr, ◌⊎◌}
use Rattle.std.proofs.Math.Decide.{ℕ_discrete}
use Rattle.spec_core.specs.Terms.{TermTree, TermTrees, variable, apply, no_terms, and_term, instance, instances, Occurs, OccursInAny}
use Rattle.spec_core.specs.Orthogonality.{IsLinear, AreLinear}
use Rattle.spec_core.proofs.OneValue.{same_instance, same_instances}
use Rattle.equation_shapes.specs.Shapes.{IsOfShape, AreOfShape, Meets, MeetAll, HaveCommonInstance}

-- whether something is so
abbrev pub Tells : Type 0 → Type 0
Tells A = A ⊎ (A → ⊥)

pub number : (n m : ℕ) → Tells (n ≡ m)
number n m = elim (ℕ_discrete n m) [ yes e ↦ inl e | no h ↦ inr h ]

either_tells : {A B : Type 0} → Tells A → Tells B → Tells (A ⊎ B)
either_tells (inl a) _ = inl (inl a)
either_tells (inr h) (inl b) = inl (inr b)
either_tells (inr h) (inr k) = inr (λ s. elim s [ inl a ↦ h a | inr b ↦ k b ])

mutual
  pub occurs : (x : ℕ) (t : TermTree) → Tells (Occurs x t)
  occurs x (variable y) = number x y
  occurs x (apply f ts) = occurs_any x ts

  pub occurs_any : (x : ℕ) (ts : TermTrees) → Tells (OccursInAny x ts)
  occurs_any x no_terms = inr (λ o. o)
  occurs_any x (and_term t ts) = either_tells (occurs x t) (occurs_any x ts)

abbrev pick : {A : Type 0} → Tells A → TermTree → TermTree → TermTree
pick (inl a) t u = t
pick (inr h) t u = u

picks_first : {A : Type 0} (d : Tells A) (t u : TermTree) → A → pick d t u ≡ t
picks_first (inl a) t u h = refl
picks_first (inr k) t u h = absurd (k h)

picks_second : {A : Type 0} (d : Tells A) (t u : TermTree) → (A → ⊥) → pick d t u ≡ u
picks_second (inl a) t u h = absurd (h a)
picks_second (inr k) t u h = refl

-- the first substitution for the variables of p, the second for all others
pub both : TermTree → (ℕ → TermTree) → (ℕ → TermTree) → ℕ → TermTree
both p s z x = pick (occurs x p) (s x) (z x)

pub of_first : (p : TermTree) (s z : ℕ → TermTree) → instance (both p s z) p ≡ instance s p
unfolding both
of_first p s z = same_instance (both p s z) s p (λ x o. picks_first (occurs x p) (s x) (z x) o)

pub of_others : (p : TermTree) (ps : TermTrees) (s z : ℕ → TermTree) → ((x : ℕ) → Occurs x p → OccursInAny x ps → ⊥) →
    instances (both p s z) ps ≡ instances z ps
unfolding both
of_others p ps s z apart = same_instances (both p s z) z ps (λ x o. picks_second (occurs x p) (s x) (z x) (λ h. apart x h o))

both_and : {t u : TermTree} {ts us : TermTrees} → t ≡ u → ts ≡ us → and_term t ts ≡ and_term u us
both_and e d = cc

both_apply : {f g : ℕ} {ts us : TermTrees} → f ≡ g → ts ≡ us → apply f ts ≡ apply g us
both_apply e d = cc

-- what is of the shape of a linear term is an instance of it
mutual
  pub filled : (p t : TermTree) → IsLinear p → IsOfShape p t → (s : ℕ → TermTree) × (instance s p ≡ t)
  filled (variable x) t l h = ((λ y. t), refl)
  filled (apply f ps) (variable y) l h = absurd h
  filled (apply f ps) (apply g ts) l h = let r = filled_all ps ts l h.1 in (r.0, both_apply h.0 r.1)

  pub filled_all : (ps ts : TermTrees) → AreLinear ps → AreOfShape ps ts → (s : ℕ → TermTree) × (instances s ps ≡ ts)
  filled_all no_terms no_terms l h = (variable, refl)
  filled_all (and_term p ps) (and_term t ts) l h =
      let a = filled p t l.0 h.0 in
      let b = filled_all ps ts l.2 h.1 in
      (both p a.0 b.0, both_and (of_first p a.0 b.0 ∙ a.1) (of_others p ps a.0 b.0 l.1 ∙ b.1))
  filled_all no_terms (and_term t ts) l h = absurd h
  filled_all (and_term p ps) no_terms l h = absurd h

-- an instance is of the term's shape
mutual
  pub of_shape : (s : ℕ → TermTree) (p : TermTree) → IsOfShape p (instance s p)
  of_shape s (variable x) = tt
  of_shape s (apply f ps) = (refl, are_of_shape s ps)

  pub are_of_shape : (s : ℕ → TermTree) (ps : TermTrees) → AreOfShape ps (instances s ps)
  are_of_shape s no_terms = tt
  are_of_shape s (and_term p ps) = (of_shape s p, are_of_shape s ps)

-- what is of two shapes at once shows that they meet
mutual
  pub both_shapes : (p q t : TermTree) → IsOfShape p t → IsOfShape q t → Meets p q
  both_shapes (variable x) q t h k = tt
  both_shapes (apply f ps) (variable y) t h k = tt
  both_shapes (apply f ps) (apply g qs) (variable z) h k = absurd h
  both_shapes (apply f ps) (apply g qs) (apply i ts) h k = (h.0 ∙ sym k.0, all_shapes ps qs ts h.1 k.1)

  pub all_shapes : (ps qs ts : TermTrees) → AreOfShape ps ts → AreOfShape qs ts → MeetAll ps qs
  all_shapes no_terms no_terms ts h k = tt
  all_shapes no_terms (and_term q qs) no_terms h k = absurd k
  all_shapes no_terms (and_term q qs) (and_term t ts) h k = absurd h
  all_shapes (and_term p ps) no_terms no_terms h k = absurd h
  all_shapes (and_term p ps) no_terms (and_term t ts) h k = absurd k
  all_shapes (and_term p ps) (and_term q qs) no_terms h k = absurd h
  all_shapes (and_term p ps) (and_term q qs) (and_term t ts) h k = (both_shapes p q t h.0 k.0, all_shapes ps qs ts h.1 k.1)

pub record HaveInstances (ps qs : TermTrees) : Type 0 where
  pub one : ℕ → TermTree
  pub other : ℕ → TermTree
  pub same : instances one ps ≡ instances other qs

pub have_meet : (p q : TermTree) → HaveCommonInstance p q → Meets p q
have_meet p q h = both_shapes p q (instance h.one p) (of_shape h.one p) (subst (IsOfShape q) (sym h.same) (of_shape h.other q))

-- two linear terms that meet have a common instance
mutual
  pub united : (p q : TermTree) → IsLinear p → IsLinear q → Meets p q → HaveCommonInstance p q
  united (variable x) q l k m = record { one = λ _. instance variable q; other = variable; same = refl }
  united (apply f ps) (variable y) l k m = record { one = variable; other = λ _. instance variable (apply f ps); same = refl }
  united (apply f ps) (apply g qs) l k m =
      let r = united_all ps qs l k m.1 in
      record { one = r.one; other = r.other; same = both_apply m.0 r.same }

  pub united_all : (ps qs : TermTrees) → AreLinear ps → AreLinear qs → MeetAll ps qs → HaveInstances ps qs
  united_all no_terms no_terms l k m = record { one = variable; other = variable; same = refl }
  united_all (and_term p ps) (and_term q qs) l k m =
      let a = united p q l.0 k.0 m.0 in
      let b = united_all ps qs l.2 k.2 m.1 in
      record {
        one = both p a.one b.one;
        other = both q a.other b.other;
        same = both_and (of_first p a.one b.one ∙ a.same ∙ sym (of_first q a.other b.other)) (of_others p ps a.one b.one l.1 ∙ b.same ∙ sym (of_others q qs a.other b.other k.1));
      }
  united_all no_terms (and_term q qs) l k m = absurd m
  united_all (and_term p ps) no_terms l k m = absurd m
