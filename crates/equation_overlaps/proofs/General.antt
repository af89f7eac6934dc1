-- Common instances: of two linear terms that meet, an instance of each, and the most general one.
use Rattle.std.proofs.Common.{ℕ, ◌≡◌, ◌+◌, refl, sym}
use Rattle.spec_core.specs.Terms.{TermTree, TermTrees, variable, apply, no_terms, and_term, instance, instances}
use Rattle.spec_core.specs.Orthogonality.{IsLinear}
use Rattle.equation_shapes.specs.Shapes.{IsOfShape, AreOfShape, Meets, MeetAll}
use Rattle.equation_shapes.proofs.Linear.{filled, of_shape}
use Rattle.equation_overlaps.specs.Common.{common_instance, common_instances}

mutual
  pub itself : (p : TermTree) → IsOfShape p p
  itself (variable x) = tt
  itself (apply f ps) = (refl, all_itself ps)

  pub all_itself : (ps : TermTrees) → AreOfShape ps ps
  all_itself no_terms = tt
  all_itself (and_term p ps) = (itself p, all_itself ps)

mutual
  pub of_first : (n : ℕ) (p q : TermTree) → Meets p q → IsOfShape p (common_instance n p q)
  of_first n (variable x) q m = tt
  of_first n (apply f ps) (variable y) m = itself (apply f ps)
  of_first n (apply f ps) (apply g qs) m = (refl, all_of_first n ps qs m.1)

  all_of_first : (n : ℕ) (ps qs : TermTrees) → MeetAll ps qs → AreOfShape ps (common_instances n ps qs)
  all_of_first n no_terms no_terms m = tt
  all_of_first n no_terms (and_term q qs) m = absurd m
  all_of_first n (and_term p ps) no_terms m = absurd m
  all_of_first n (and_term p ps) (and_term q qs) m = (of_first n p q m.0, all_of_first n ps qs m.1)

mutual
  pub of_second : (n : ℕ) (p q : TermTree) → Meets p q → IsOfShape q (common_instance n p q)
  of_second n p (variable y) m = tt
  of_second n (variable x) (apply g qs) m = of_shape (λ y. variable (n + y)) (apply g qs)
  of_second n (apply f ps) (apply g qs) m = (sym m.0, all_of_second n ps qs m.1)

  all_of_second : (n : ℕ) (ps qs : TermTrees) → MeetAll ps qs → AreOfShape qs (common_instances n ps qs)
  all_of_second n no_terms no_terms m = tt
  all_of_second n no_terms (and_term q qs) m = absurd m
  all_of_second n (and_term p ps) no_terms m = absurd m
  all_of_second n (and_term p ps) (and_term q qs) m = (of_second n p q m.0, all_of_second n ps qs m.1)

-- what is of both shapes is of the common instance's
mutual
  shifted : (n : ℕ) (q t : TermTree) → IsOfShape q t → IsOfShape (instance (λ y. variable (n + y)) q) t
  shifted n (variable y) t h = tt
  shifted n (apply g qs) (variable z) h = h
  shifted n (apply g qs) (apply i ts) h = (h.0, all_shifted n qs ts h.1)

  all_shifted : (n : ℕ) (qs ts : TermTrees) → AreOfShape qs ts → AreOfShape (instances (λ y. variable (n + y)) qs) ts
  all_shifted n no_terms ts h = h
  all_shifted n (and_term q qs) no_terms h = h
  all_shifted n (and_term q qs) (and_term t ts) h = (shifted n q t h.0, all_shifted n qs ts h.1)

mutual
  pub most_general : (n : ℕ) (p q t : TermTree) → IsOfShape p t → IsOfShape q t → IsOfShape (common_instance n p q) t
  most_general n (variable x) (variable y) t h k = tt
  most_general n (variable x) (apply g qs) t h k = shifted n (apply g qs) t k
  most_general n (apply f ps) (variable y) t h k = h
  most_general n (apply f ps) (apply g qs) (variable z) h k = h
  most_general n (apply f ps) (apply g qs) (apply i ts) h k = (h.0, all_most_general n ps qs ts h.1 k.1)

  all_most_general : (n : ℕ) (ps qs ts : TermTrees) → AreOfShape ps ts → AreOfShape qs ts → AreOfShape (common_instances n ps qs) ts
  all_most_general n no_terms qs ts h k = h
  all_most_general n (and_term p ps) no_terms no_terms h k = absurd h
  all_most_general n (and_term p ps) no_terms (and_term t ts) h k = absurd k
  all_most_general n (and_term p ps) (and_term q qs) no_terms h k = h
  all_most_general n (and_term p ps) (and_term q qs) (and_term t ts) h k = (most_general n p q t h.0 k.0, all_most_general n ps qs ts h.1 k.1)

pub of_both : (n : ℕ) (p q : TermTree) → IsLinear p → IsLinear q → Meets p q →
    ((s : ℕ → TermTree) × (instance s p ≡ common_instance n p q)) × ((z : ℕ → TermTree) × (instance z q ≡ common_instance n p q))
of_both n p q l k m = (filled p (common_instance n p q) l (of_first n p q m), filled q (common_instance n p q) k (of_second n p q m))
