-- Provable equality: the derivation system of ACT ONE. (ISO 8807, ACT ONE: the derivation system of a data type.)
use Rattle.std.specs.Prelude.{ℕ, ◌≡◌, List, [], ◌∷◌, Some}
use Rattle.std.specs.List.{slice_get}
use Rattle.spec_core.specs.Lists.{IsOneOf}
use Rattle.spec_core.specs.Terms.{TermTree, TermTrees, apply, no_terms, and_term, instance}
use Rattle.spec_core.specs.Theories.{Premise, premise, ConditionalEquation, Theory, OccursInEquation}
use Rattle.spec_core.specs.Sorts.{HasSort, FitsGround, no_variables}

-- the substitution gives each variable of the equation a ground term of its sort
abbrev pub IsGroundFor : Theory → ConditionalEquation → (ℕ → TermTree) → Type 0
IsGroundFor theory e s = (x sort : ℕ) → OccursInEquation x e → slice_get e.sorts x ≡ Some sort → HasSort theory no_variables (s x) sort

-- two ground terms are provably equal: by reflexivity, symmetry, transitivity, congruence, or as an instance of an equation
-- whose premises' instances are provably equal
mutual
  pub data Equal (theory : Theory) : TermTree → TermTree → Type 0 where
    by_reflexivity : {t : TermTree} → FitsGround theory t → Equal theory t t
    by_symmetry : {a b : TermTree} → Equal theory b a → Equal theory a b
    by_transitivity : {a b : TermTree} (c : TermTree) → Equal theory a c → Equal theory c b → Equal theory a b
    by_congruence : {f : ℕ} {ts us : TermTrees} →
        FitsGround theory (apply f ts) →
        AreEqual theory ts us →
        Equal theory (apply f ts) (apply f us)
    by_equation : {a b : TermTree} (e : ConditionalEquation) (s : ℕ → TermTree) →
        IsOneOf e theory.equations →
        IsGroundFor theory e s →
        PremisesHold theory s e.premises →
        a ≡ instance s e.left →
        b ≡ instance s e.right →
        Equal theory a b

  -- term by term
  pub data AreEqual (theory : Theory) : TermTrees → TermTrees → Type 0 where
    none_equal : AreEqual theory no_terms no_terms
    more_equal : {t u : TermTree} {ts us : TermTrees} →
        Equal theory t u →
        AreEqual theory ts us →
        AreEqual theory (and_term t ts) (and_term u us)

  -- the sides of each premise's instance are equal
  pub data PremisesHold (theory : Theory) : (ℕ → TermTree) → List Premise → Type 0 where
    none_asked : {s : ℕ → TermTree} → PremisesHold theory s []
    more_asked : {s : ℕ → TermTree} {a b : TermTree} {ps : List Premise} →
        Equal theory (instance s a) (instance s b) →
        PremisesHold theory s ps →
        PremisesHold theory s (premise a b ∷ ps)

-- a proof of an equality, as a tree
mutual
  pub data EqualityProof : Type 0 where
    reflexivity : TermTree → EqualityProof
    symmetry : EqualityProof → EqualityProof
    transitivity : EqualityProof → EqualityProof → EqualityProof
    congruence : ℕ → EqualityProofs → EqualityProof
    equation_instance : ConditionalEquation → (ℕ → TermTree) → EqualityProofs → EqualityProof

  pub data EqualityProofs : Type 0 where
    no_proofs : EqualityProofs
    and_proof : EqualityProof → EqualityProofs → EqualityProofs

-- the proof concludes that the two terms are equal
abbrev mutual
  pub Concludes : Theory → EqualityProof → TermTree → TermTree → Type 0
  Concludes theory (reflexivity t) a b = FitsGround theory t × (a ≡ t) × (b ≡ t)
  Concludes theory (symmetry p) a b = Concludes theory p b a
  Concludes theory (transitivity p q) a b = (c : TermTree) × Concludes theory p a c × Concludes theory q c b
  Concludes theory (congruence f ps) a b =
      (ts us : TermTrees) × (a ≡ apply f ts) × (b ≡ apply f us) × FitsGround theory (apply f ts) × ConcludeAll theory ps ts us
  Concludes theory (equation_instance e s ps) a b =
      IsOneOf e theory.equations × IsGroundFor theory e s × ConcludePremises theory ps s e.premises × (a ≡ instance s e.left) ×
      (b ≡ instance s e.right)

  pub ConcludeAll : Theory → EqualityProofs → TermTrees → TermTrees → Type 0
  ConcludeAll theory no_proofs ts us = (ts ≡ no_terms) × (us ≡ no_terms)
  ConcludeAll theory (and_proof p ps) ts us =
      (t u : TermTree) × (vs ws : TermTrees) × (ts ≡ and_term t vs) × (us ≡ and_term u ws) × Concludes theory p t u ×
      ConcludeAll theory ps vs ws

  pub ConcludePremises : Theory → EqualityProofs → (ℕ → TermTree) → List Premise → Type 0
  ConcludePremises theory no_proofs s asked = asked ≡ []
  ConcludePremises theory (and_proof p ps) s asked =
      (l r : TermTree) × (rest : List Premise) × (asked ≡ premise l r ∷ rest) × Concludes theory p (instance s l) (instance s r) ×
      ConcludePremises theory ps s rest
