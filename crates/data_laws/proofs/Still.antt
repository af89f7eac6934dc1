-- Values, as evaluation sees them: each part of the term is its own value.
use Rattle.std.proofs.Common.{ℕ, ◌≡◌, ◌+◌, List, [], ◌∷◌, refl, sym, ap, subst, inl, inr, ◌⊎◌}
use Rattle.spec_core.specs.Lists.{Each}
use Rattle.spec_core.specs.Terms.{TermTree, TermTrees, variable, apply, no_terms, and_term, instance, instances}
use Rattle.spec_core.specs.Theories.{Premise, premise, ConditionalEquation, Theory}
use Rattle.spec_core.specs.Orthogonality.{HasNoLooseVariables}
use Rattle.spec_core.specs.Evaluation.{Evaluates, EvaluatesAll, Tries, called, none, more}
use Rattle.spec_core.specs.Constructors.{IsConstructor}
use Rattle.spec_core.specs.OpenSorts.{GivesSort, IsOpen}
use Rattle.spec_core.specs.Order.{IsInside, IsInsideAny, IsSmaller}
use Rattle.spec_core.proofs.OneValue.{one_value}

abbrev pub AllFail : Theory → (ℕ → TermTree) → List Premise → Type 0
AllFail theory s [] = ⊥
AllFail theory s (premise a b ∷ ps) =
    ((w u : TermTree) × (n m : ℕ) × Evaluates theory (instance s a) w n × Evaluates theory (instance s b) u m × (w ≡ u → ⊥)) ⊎
    AllFail theory s ps

-- the equation doesn't apply to f over vs
abbrev pub IsRefuted : Theory → ℕ → TermTrees → ConditionalEquation → Type 0
IsRefuted theory f vs e = ((s : ℕ → TermTree) → instance s e.left ≡ apply f vs → ⊥) ⊎
    ((s : ℕ → TermTree) × (instance s e.left ≡ apply f vs) × AllFail theory s e.premises)

-- the operation may stay over values: it is a constructor, unless its sort is open
abbrev pub MayStay : Theory → ℕ → Type 0
MayStay theory f = (sort : ℕ) → GivesSort theory f sort → (IsOpen theory sort → ⊥) → IsConstructor theory f

abbrev mutual
  pub IsStill : Theory → TermTree → Type 0
  IsStill theory (variable x) = ⊥
  IsStill theory (apply f vs) = AreStill theory vs × MayStay theory f × ((k : ℕ) × Tries theory theory.equations f vs (apply f vs) k) ×
      Each (IsRefuted theory f vs) theory.equations

  pub AreStill : Theory → TermTrees → Type 0
  AreStill theory no_terms = Unit {0}
  AreStill theory (and_term v vs) = IsStill theory v × AreStill theory vs

module _ (theory : Theory) where
  mutual
    -- a value evaluates to itself, at some cost
    pub own_value : (v : TermTree) → IsStill theory v → (k : ℕ) × Evaluates theory v v k
    own_value (variable x) h = absurd h
    own_value (apply f vs) h =
        let a = own_values vs h.0 in
        (a.0 + h.2.0, called vs a.0 h.2.0 a.1 h.2.1 refl)

    pub own_values : (vs : TermTrees) → AreStill theory vs → (k : ℕ) × EvaluatesAll theory vs vs k
    own_values no_terms h = (0, none refl)
    own_values (and_term v vs) h =
        let a = own_value v h.0 in
        let b = own_values vs h.1 in
        (a.0 + b.0, more a.0 b.0 a.1 b.1 refl)

  mutual
    pub part : (u t : TermTree) → IsInside u t → IsStill theory t → IsStill theory u
    part u (variable x) i h = absurd i
    part u (apply f ts) i h = part_any u ts i h.0

    pub part_any : (u : TermTree) (ts : TermTrees) → IsInsideAny u ts → AreStill theory ts → IsStill theory u
    part_any u no_terms i h = absurd i
    part_any u (and_term t ts) (inl e) h = subst (IsStill theory) (sym e) h.0
    part_any u (and_term t ts) (inr (inl i)) h = part u t i h.0
    part_any u (and_term t ts) (inr (inr i)) h = part_any u ts i h.1

module _ (s : ℕ → TermTree) where
  mutual
    pub inside_instance : (u t : TermTree) → IsInside u t → IsInside (instance s u) (instance s t)
    inside_instance u (variable x) i = absurd i
    inside_instance u (apply f ts) i = inside_instances u ts i

    pub inside_instances : (u : TermTree) (ts : TermTrees) → IsInsideAny u ts → IsInsideAny (instance s u) (instances s ts)
    inside_instances u no_terms i = absurd i
    inside_instances u (and_term t ts) (inl e) = inl (ap (instance s) e)
    inside_instances u (and_term t ts) (inr (inl i)) = inr (inl (inside_instance u t i))
    inside_instances u (and_term t ts) (inr (inr i)) = inr (inr (inside_instances u ts i))

module _ (theory : Theory) (tight : Each HasNoLooseVariables theory.equations) (s : ℕ → TermTree) where
  -- where terms are smaller than patterns, so are their values than the patterns' instances
  pub smaller_values : (ts ps ws : TermTrees) (n : ℕ) → IsSmaller ts ps → AreStill theory (instances s ps) →
      EvaluatesAll theory (instances s ts) ws n → IsSmaller ws (instances s ps)
  smaller_values no_terms no_terms ws n i h e = absurd i
  smaller_values no_terms (and_term p ps) ws n i h e = absurd i
  smaller_values (and_term t ts) no_terms ws n i h e = absurd i
  smaller_values (and_term t ts) (and_term p ps) no_terms n i h e = none_smaller t ts p ps i h n e
    where
      none_smaller : (t : TermTree) (ts : TermTrees) (p : TermTree) (ps : TermTrees) → IsSmaller (and_term t ts) (and_term p ps) →
          AreStill theory (instances s (and_term p ps)) → (n : ℕ) →
          EvaluatesAll theory (and_term (instance s t) (instances s ts)) no_terms n → ⊥
      none_smaller t ts p ps i h n e = elim e [ ]
  smaller_values (and_term t ts) (and_term p ps) (and_term w ws) n (inl i) h (more n' m' a b e) =
      let j = inside_instance s t p i in
      let v = own_value theory (instance s t) (part theory (instance s t) (instance s p) j h.0) in
      inl (subst (λ z. IsInside z (instance s p)) (one_value theory tight v.1 a).0 j)
  smaller_values (and_term t ts) (and_term p ps) (and_term w ws) n (inr i) h (more n' m' a b e) =
      let q : instance s t ≡ instance s p = ap (instance s) i.0 in
      let v = own_value theory (instance s p) h.0 in
      inr (sym (one_value theory tight v.1 (subst (λ z. Evaluates theory z w n') q a)).0, smaller_values ts ps ws m' i.1 h.1 b)
