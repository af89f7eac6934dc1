-- Provable equality and its proofs as trees.
use Rattle.std.proofs.Common.{ℕ, ◌≡◌, List, refl, sym, subst}
use Rattle.spec_core.specs.Terms.{TermTree, TermTrees}
use Rattle.spec_core.specs.Theories.{Premise, Theory}
use Rattle.spec_core.specs.Equality.{Equal, AreEqual, PremisesHold, by_reflexivity, by_symmetry, by_transitivity, by_congruence}
use Rattle.spec_core.specs.Equality.{by_equation, none_equal, more_equal, none_asked, more_asked, EqualityProof, EqualityProofs}
use Rattle.spec_core.specs.Equality.{reflexivity, symmetry, transitivity, congruence, equation_instance, no_proofs, and_proof, Concludes}
use Rattle.spec_core.specs.Equality.{ConcludeAll, ConcludePremises}

module _ (theory : Theory) where
  mutual
    pub proof_of : {a b : TermTree} → Equal theory a b → (p : EqualityProof) × Concludes theory p a b
    proof_of (by_reflexivity {t} fits) = (reflexivity t, (fits, refl, refl))
    proof_of (by_symmetry p) = let q = proof_of p in (symmetry q.0, q.1)
    proof_of (by_transitivity c p q) = let r = proof_of p in let s = proof_of q in (transitivity r.0 s.0, (c, r.1, s.1))
    proof_of (by_congruence {f} {ts} {us} fits ps) = let q = proofs_of ps in (congruence f q.0, (ts, us, refl, refl, fits, q.1))
    proof_of (by_equation e s among ground ps left right) =
        let q = premise_proofs ps in (equation_instance e s q.0, (among, ground, q.1, left, right))

    proofs_of : {ts us : TermTrees} → AreEqual theory ts us → (ps : EqualityProofs) × ConcludeAll theory ps ts us
    proofs_of none_equal = (no_proofs, (refl, refl))
    proofs_of (more_equal {t} {u} {ts} {us} p ps) =
        let q = proof_of p in let qs = proofs_of ps in (and_proof q.0 qs.0, (t, u, ts, us, refl, refl, q.1, qs.1))

    premise_proofs : {s : ℕ → TermTree} {asked : List Premise} →
        PremisesHold theory s asked → (ps : EqualityProofs) × ConcludePremises theory ps s asked
    premise_proofs none_asked = (no_proofs, refl)
    premise_proofs (more_asked {s} {a} {b} {ps = rest} p ps) =
        let q = proof_of p in let qs = premise_proofs ps in (and_proof q.0 qs.0, (a, b, rest, refl, q.1, qs.1))

  along : {a b c d : TermTree} → Equal theory a b → a ≡ c → b ≡ d → Equal theory c d
  along {a} {b} {c} {d} p left right = subst (λ t. Equal theory t d) left (subst (Equal theory a) right p)

  all_along : {ts us vs ws : TermTrees} → AreEqual theory ts us → ts ≡ vs → us ≡ ws → AreEqual theory vs ws
  all_along {ts} {us} {vs} {ws} p left right = subst (λ xs. AreEqual theory xs ws) left (subst (AreEqual theory ts) right p)

  mutual
    pub proved : (p : EqualityProof) (a b : TermTree) → Concludes theory p a b → Equal theory a b
    proved (reflexivity t) a b h = along (by_reflexivity h.0) (sym h.1) (sym h.2)
    proved (symmetry p) a b h = by_symmetry (proved p b a h)
    proved (transitivity p q) a b h = by_transitivity h.0 (proved p a h.0 h.1) (proved q h.0 b h.2)
    proved (congruence f ps) a b h = along (by_congruence h.4 (all_proved ps h.0 h.1 h.5)) (sym h.2) (sym h.3)
    proved (equation_instance e s ps) a b h = by_equation e s h.0 h.1 (premises_proved ps s e.premises h.2) h.3 h.4

    all_proved : (ps : EqualityProofs) (ts us : TermTrees) → ConcludeAll theory ps ts us → AreEqual theory ts us
    all_proved no_proofs ts us h = all_along none_equal (sym h.0) (sym h.1)
    all_proved (and_proof p ps) ts us h = all_along (more_equal (proved p h.0 h.1 h.6) (all_proved ps h.2 h.3 h.7)) (sym h.4) (sym h.5)

    premises_proved : (ps : EqualityProofs) (s : ℕ → TermTree) (asked : List Premise) →
        ConcludePremises theory ps s asked → PremisesHold theory s asked
    premises_proved no_proofs s asked h = subst (PremisesHold theory s) (sym h) none_asked
    premises_proved (and_proof p ps) s asked h =
        subst (PremisesHold theory s) (sym h.3) (more_asked (proved p _ _ h.4) (premises_proved ps s h.2 h.5))
