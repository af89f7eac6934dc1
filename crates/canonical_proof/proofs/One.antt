-- A term has one value and one list of lines.
use Rattle.std.proofs.Common.{ℕ, ◌≡◌, List, [], ◌∷◌, ◌++◌, refl, sym, ap, subst, ◌∙◌, inl, inr, ◌⊎◌}
use Rattle.spec_core.specs.Evaluation.{Evaluates}
use Rattle.spec_core.specs.Lists.{Each}
use Rattle.spec_core.specs.Orthogonality.{HasNoLooseVariables}
use Rattle.spec_core.specs.Terms.{TermTree, TermTrees, apply, instance}
use Rattle.spec_core.specs.Theories.{Premise, ConditionalEquation, Theory, OccursInPremises}
use Rattle.spec_core.proofs.OneValue.{one_value, agree, same_instance}
use Rattle.canonical_proof.specs.Canonical.{Writes, WritesAll, WritesCall, WritesPremises, OneFails, IsPassedOver, of_call, none_written}
use Rattle.canonical_proof.specs.Canonical.{one_written, stays, passed, applied, none_left, one_holds, use_of}
use Rattle.canonical_proof.specs.Laws.{CanonicalCertificatesAreOne}
use Rattle.canonical_proof.specs.Lines.{Line, turn, chain, inside, uses}
use Rattle.canonical_proof.proofs.Evaluated.{evaluated}
use Rattle.canonical_proof.proofs.Given.{same_given}

module _ (theory : Theory) (tight : Each HasNoLooseVariables theory.equations) where
  -- premises that hold don't fail
  clash : (s z : ℕ → TermTree) {ps : List Premise} {b a : List Line} → ((x : ℕ) → OccursInPremises x ps → s x ≡ z x) →
      WritesPremises theory s ps b a → OneFails theory z ps → ⊥
  clash s z h (none_left e) k = k
  clash s z h (one_holds {a = l} {b = r} {ps = ps} w m n x y rest) k =
      let p = evaluated theory x in
      let q = evaluated theory y in
      let left = one_value theory tight
      (subst (λ t. Evaluates theory t w p.0) (same_instance s z l (λ y o. h y (inl o))) p.1) k.4 in
      let right = one_value theory tight
      (subst (λ t. Evaluates theory t w q.0) (same_instance s z r (λ y o. h y (inr (inl o)))) q.1) k.5 in
      by (λ q. clash s z (λ y o. h y (inr (inr o))) rest q) k.0 k.1 (sym left.0 ∙ right.0) k.6
    where
      by : (OneFails theory z ps → ⊥) → (c d : TermTree) → c ≡ d → ((c ≡ d → ⊥) ⊎ ((c ≡ d) × OneFails theory z ps)) → ⊥
      by later c d e (inl differ) = differ e
      by later c d e (inr k) = later k.1

  -- an equation that applies isn't passed over
  not_passed : (e : ConditionalEquation) → HasNoLooseVariables e → (f : ℕ) (vs us : TermTrees) → vs ≡ us → (s : ℕ → TermTree) →
      instance s e.left ≡ apply f us → {b a : List Line} → WritesPremises theory s e.premises b a → IsPassedOver theory e f vs → ⊥
  not_passed e t f vs us p s g x (inl h) = h s (g ∙ ap (apply f) (sym p))
  not_passed e t f vs us p s g x (inr h) =
      let k : instance s e.left ≡ instance h.0 e.left = g ∙ ap (apply f) (sym p) ∙ sym h.1 in
      clash s h.0 (λ y o. agree s h.0 e.left k y (t.premises y o)) x h.2

  mutual
    pub one : {t v : TermTree} {b a : List Line} → Writes theory t v b a → (d : List Line) → b ≡ d → {w : TermTree} {c : List Line} →
        Writes theory t w d c → (v ≡ w) × (a ≡ c)
    one (of_call {f} vs m x y) d q (of_call us n z k) =
        let p = one_all x d q z in
        one_call y tight us p.0 (n ++ inside f ∷ []) (ap (λ ls. ls ++ inside f ∷ []) p.1) k

    one_all : {ts vs : TermTrees} {b a : List Line} → WritesAll theory ts vs b a → (d : List Line) → b ≡ d → {ws : TermTrees}
        {c : List Line} → WritesAll theory ts ws d c → (vs ≡ ws) × (a ≡ c)
    one_all (none_written e) d q (none_written k) = (refl, e ∙ q ∙ sym k)
    one_all (one_written m x y) d q (one_written n z k) =
        let p = one x d q z in
        let r = one_all y n p.1 k in
        (cc, r.1)

    one_call : {number f : ℕ} {es : List ConditionalEquation} {vs : TermTrees} {v : TermTree} {b a : List Line} →
        WritesCall theory number es f vs v b a → Each HasNoLooseVariables es → (us : TermTrees) → vs ≡ us → (d : List Line) → b ≡ d →
        {w : TermTree} {c : List Line} → WritesCall theory number es f us w d c → (v ≡ w) × (a ≡ c)
    one_call (stays e k) t us p d q (stays g l) = (cc, k ∙ q ∙ sym l)
    one_call (passed h x) t us p d q (passed i y) = one_call x t.1 us p d q y
    one_call (passed {e = e} {f = f} {vs = vs} h x) t us p d q (applied s m n g i j k) = absurd (not_passed e t.0 f vs us p s g i h)
    one_call (applied {e = e} {f = f} {vs = vs} s m n g i j k) t us p d q (passed h x) =
        absurd (not_passed e t.0 f us vs (sym p) s g i h)
    one_call (applied {number = number} {e = e} {f = f} s m n g i j k) t us p d q {w = w} (applied z m' n' g' i' j' k') =
        let l : instance s e.left ≡ instance z e.left = g ∙ ap (apply f) p ∙ sym g' in
        let same = agree s z e.left l in
        let u : use_of e number s ≡ use_of e number z = ap (uses number) (same_given s z e.left same) in
        let r = one_premises i z (λ x o. same x (t.0.premises x o)) d q i' in
        let a : m ++ use_of e number s ∷ [] ++ chain ∷ [] ≡ m' ++ use_of e number z ∷ [] ++ chain ∷ [] =
        ap (λ ls. ls ++ use_of e number s ∷ [] ++ chain ∷ []) r ∙ ap (λ o. m' ++ o ∷ [] ++ chain ∷ []) u in
        let y = subst (λ o. Writes theory o w (m' ++ use_of e number z ∷ [] ++ chain ∷ []) n')
        (sym (same_instance s z e.right (λ x o. same x (t.0.right x o)))) j' in
        let b = one j (m' ++ use_of e number z ∷ [] ++ chain ∷ []) a y in
        (b.0, k ∙ ap (λ ls. ls ++ chain ∷ []) b.1 ∙ sym k')

    one_premises : {s : ℕ → TermTree} {ps : List Premise} {b a : List Line} → WritesPremises theory s ps b a → (z : ℕ → TermTree) →
        ((x : ℕ) → OccursInPremises x ps → s x ≡ z x) → (d : List Line) → b ≡ d → {c : List Line} →
        WritesPremises theory z ps d c → a ≡ c
    one_premises (none_left e) z h d q (none_left k) = e ∙ q ∙ sym k
    one_premises {s = s} (one_holds {a = l} {b = r} w m n x y k) z h d q (one_holds w' m' n' x' y' k') =
        let i = subst (λ t. Writes theory t w' d m') (sym (same_instance s z l (λ x o. h x (inl o)))) x' in
        let j = subst (λ t. Writes theory t w' m' n') (sym (same_instance s z r (λ x o. h x (inr (inl o))))) y' in
        let a = one x d q i in
        let b = one y m' a.1 j in
        one_premises k z (λ x o. h x (inr (inr o))) (n' ++ turn ∷ [] ++ chain ∷ []) (ap (λ ls. ls ++ turn ∷ [] ++ chain ∷ []) b.1) k'

pub certificates_are_one : CanonicalCertificatesAreOne
certificates_are_one theory ex t u lines others h k =
    let tight = ex.orthogonal.closed in
    let a = one theory tight h.of_left [] refl k.of_left in
    let b = one theory tight h.of_right k.middle a.1 k.of_right in
    h.whole ∙ ap (λ ls. ls ++ turn ∷ [] ++ chain ∷ []) b.1 ∙ sym k.whole
