-- In a full group some equation has all its premises.
use Rattle.std.proofs.Common.{ℕ, ◌≡◌, List, [], ◌∷◌, refl, sym, subst, inl, inr, Option}
use Rattle.spec_core.specs.Lists.{Each, OneOf}
use Rattle.spec_core.specs.Terms.{TermTree, constant, instance}
use Rattle.spec_core.specs.Theories.{Premise, Theory}
use Rattle.spec_core.specs.Sorts.{HasSort}
use Rattle.spec_core.specs.Evaluation.{Evaluates}
use Rattle.spec_core.specs.Cover.{IsConstant, HasConstants, BeginWithConstants, IsAfter, IsFull, empty_one, by_constants}
use Rattle.spec_core.specs.Executable.{IsExecutable}
use Rattle.data_laws.proofs.Given.{Makes, PremiseMakes, PremiseMeets, meets, side}

module _ (theory : Theory) (ex : IsExecutable theory) (vars : ℕ → Option ℕ) (z : ℕ → TermTree)
    (constant_of : (t : TermTree) (sort : ℕ) → HasSort theory vars t sort → HasConstants theory sort →
    Makes theory (instance z t) →
    (c : ℕ) × IsConstant theory sort c × ((k : ℕ) × Evaluates theory (instance z t) (constant c) k)) where
  -- whether a premise gives a constant needn't be decided, since what is shown is that something can't be
  after : (t : TermTree) (c : ℕ) (ls : List (List Premise)) → BeginWithConstants theory t ls →
      ((rest : List (List Premise)) → IsAfter theory t c ls rest → ⊥) → ⊥
  after t c [] b k = k [] refl
  after t c ([] ∷ ls) b k = b
  after t c ((p ∷ ps) ∷ ls) b k =
      after t c ls b.1 (λ rest a. k rest (inr ((λ g. k (ps ∷ rest) (inl (g, (rest, refl, a)))), a)))

  back : (t : TermTree) (c k : ℕ) (ls rest : List (List Premise)) → IsAfter theory t c ls rest →
      Evaluates theory (instance z t) (constant c) k → Each (Each (PremiseMakes theory z)) ls → (l : List Premise) →
      OneOf (λ x. l ≡ x) rest → Each (PremiseMeets theory z) l →
      (m : List Premise) × OneOf (λ x. m ≡ x) ls × Each (PremiseMeets theory z) m
  back t c k [] rest a e known l i h = absurd (subst (λ r. OneOf (λ x. l ≡ x) r) a i)
  back t c k ([] ∷ ls) rest a e known l i h = absurd a
  back t c k ((p ∷ ps) ∷ ls) rest (inl a) e known l i h =
      here (subst (λ r. OneOf (λ x. l ≡ x) r) a.1.1 i) (λ j. back t c k ls a.1.0 a.1.2 e known.1 l j h)
    where
      here : OneOf (λ x. l ≡ x) (ps ∷ a.1.0) →
          (OneOf (λ x. l ≡ x) a.1.0 → (m : List Premise) × OneOf (λ x. m ≡ x) ls × Each (PremiseMeets theory z) m) →
          (m : List Premise) × OneOf (λ x. m ≡ x) ((p ∷ ps) ∷ ls) × Each (PremiseMeets theory z) m
      here (inl q) later = (p ∷ ps, inl refl, (meets theory ex z p t c k a.0 known.0.0 e, subst (Each (PremiseMeets theory z)) q h))
      here (inr j) later = let m = later j in (m.0, inr m.1, m.2)
  back t c k ((p ∷ ps) ∷ ls) rest (inr a) e known l i h = let m = back t c k ls rest a.1 e known.1 l i h in (m.0, inr m.1, m.2)

  empty_meets : (ls : List (List Premise)) → OneOf (λ l. l ≡ []) ls →
      (m : List Premise) × OneOf (λ x. m ≡ x) ls × Each (PremiseMeets theory z) m
  empty_meets [] i = absurd i
  empty_meets (l ∷ ls) (inl q) = (l, inl refl, subst (Each (PremiseMeets theory z)) (sym q) tt)
  empty_meets (l ∷ ls) (inr i) = let m = empty_meets ls i in (m.0, inr m.1, m.2)

  known_after : (t : TermTree) (c : ℕ) (ls rest : List (List Premise)) → IsAfter theory t c ls rest →
      Each (Each (PremiseMakes theory z)) ls → Each (Each (PremiseMakes theory z)) rest
  known_after t c [] rest a k = subst (Each (Each (PremiseMakes theory z))) (sym a) tt
  known_after t c ([] ∷ ls) rest a k = absurd a
  known_after t c ((p ∷ ps) ∷ ls) rest (inl a) k =
      subst (Each (Each (PremiseMakes theory z))) (sym a.1.1) (k.0.1, known_after t c ls a.1.0 a.1.2 k.1)
  known_after t c ((p ∷ ps) ∷ ls) rest (inr a) k = known_after t c ls rest a.1 k.1

  first_side : (t : TermTree) (l : List Premise) (ls : List (List Premise)) → BeginWithConstants theory t (l ∷ ls) →
      Each (PremiseMakes theory z) l → Makes theory (instance z t)
  first_side t [] ls b k = absurd b
  first_side t (p ∷ ps) ls b k = side theory ex z p t b.0.0 b.0.1 k.0

  pub one_applies : {ls : List (List Premise)} → IsFull theory vars ls → Each (Each (PremiseMakes theory z)) ls →
      ((m : List Premise) → OneOf (λ x. m ≡ x) ls → Each (PremiseMeets theory z) m → ⊥) → ⊥
  one_applies {ls} (empty_one i) known k = let m = empty_meets ls i in k m.0 m.1 m.2
  one_applies (by_constants {l = l} {ls = ls} t sort h q b full) known k =
      let c = constant_of t sort h q (first_side t l ls b known.0) in
      after t c.0 (l ∷ ls) b
      (λ rest a. one_applies (full c.0 c.1 rest a) (known_after t c.0 (l ∷ ls) rest a known)
      (λ m i h. let n = back t c.0 c.2.0 (l ∷ ls) rest a c.2.1 known m i h in k n.0 n.1 n.2))
