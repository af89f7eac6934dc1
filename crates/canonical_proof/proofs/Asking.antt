-- Calls in their middle.
use Rattle.std.proofs.Common.{ℕ, ◌≡◌, ◌⊎◌, List, [], ◌∷◌, ◌++◌, refl, sym, ap, subst, ◌∙◌, inl, inr}
use Rattle.std.proofs.lemmas.List.{append_assoc, append-nil}
use Rattle.spec_core.specs.Evaluation.{Evaluates}
use Rattle.spec_core.specs.Orthogonality.{HasNoLooseVariables}
use Rattle.spec_core.specs.Terms.{TermTree, TermTrees, apply, instance}
use Rattle.spec_core.specs.Theories.{Premise, premise, ConditionalEquation, Theory, OccursInPremises}
use Rattle.spec_core.proofs.OneValue.{agree, same_instance}
use Rattle.canonical_proof.specs.Asking.{Asked, one_fails, all_hold}
use Rattle.canonical_proof.specs.Canonical.{Writes, WritesAll, WritesCall, WritesPremises, OneFails, of_call, none_written, one_written}
use Rattle.canonical_proof.specs.Canonical.{stays, passed, applied, none_left, one_holds, use_of}
use Rattle.canonical_proof.specs.Lines.{Line, turn, chain, inside, uses}
use Rattle.canonical_proof.proofs.Given.{same_given}

module _ (theory : Theory) where
  -- a premise whose sides have one value, before others
  pub one_more : {s : ℕ → TermTree} {ps : List Premise} {r : TermTree} {number : ℕ} {es : List ConditionalEquation} {f : ℕ}
      {vs : TermTrees} {v : TermTree} {line : Line} {before after : List Line} (a b w : TermTree) (n m : ℕ) (now left right : List Line) →
      Evaluates theory (instance s a) w n → Evaluates theory (instance s b) w m → Writes theory (instance s a) w now left →
      Writes theory (instance s b) w left right →
      Asked theory s ps r number es f vs v line before (right ++ turn ∷ [] ++ chain ∷ []) after →
      Asked theory s (premise a b ∷ ps) r number es f vs v line before now after
  one_more a b w n m now left right x y p q (one_fails h k) = one_fails (w, w, n, m, x, y, inr (refl, h)) k
  one_more a b w n m now left right x y p q (all_hold premised reached h k e) =
      all_hold premised reached (one_holds w left right p q h) k e

  -- an equation that matches, with all its premises left
  pub by_asking : {s : ℕ → TermTree} {e : ConditionalEquation} {number : ℕ} {es : List ConditionalEquation} {f : ℕ} {vs : TermTrees}
      {v : TermTree} (before after : List Line) → instance s e.left ≡ apply f vs →
      Asked theory s e.premises e.right number es f vs v (use_of e number s) before before after →
      WritesCall theory number (e ∷ es) f vs v before after
  by_asking {s = s} before after g (one_fails h k) = passed (inr (s, g, h)) k
  by_asking {s = s} before after g (all_hold premised reached h k e) = applied s premised reached g h k e

  fails_by : (s z : ℕ → TermTree) (ps : List Premise) → ((x : ℕ) → OccursInPremises x ps → s x ≡ z x) → OneFails theory s ps →
      OneFails theory z ps
  fails_by s z [] h k = k
  fails_by s z (premise a b ∷ ps) h k =
      let l = subst (λ t. Evaluates theory t k.0 k.2) (same_instance s z a (λ x o. h x (inl o))) k.4 in
      let r = subst (λ t. Evaluates theory t k.1 k.3) (same_instance s z b (λ x o. h x (inr (inl o)))) k.5 in
      (k.0, k.1, k.2, k.3, l, r, by (fails_by s z ps (λ x o. h x (inr (inr o)))) k.0 k.1 k.6)
    where
      by : (OneFails theory s ps → OneFails theory z ps) → (w u : TermTree) → ((w ≡ u → ⊥) ⊎ ((w ≡ u) × OneFails theory s ps)) →
          (w ≡ u → ⊥) ⊎ ((w ≡ u) × OneFails theory z ps)
      by later w u (inl differ) = inl differ
      by later w u (inr q) = inr (q.0, later q.1)

  premises_by : (s z : ℕ → TermTree) {ps : List Premise} {b a : List Line} → ((x : ℕ) → OccursInPremises x ps → s x ≡ z x) →
      WritesPremises theory s ps b a → WritesPremises theory z ps b a
  premises_by s z h (none_left e) = none_left e
  premises_by s z {b = now} h (one_holds {a = a} {b = b} w left right x y k) =
      one_holds w left right
      (subst (λ t. Writes theory t w now left) (same_instance s z a (λ x o. h x (inl o))) x)
      (subst (λ t. Writes theory t w left right) (same_instance s z b (λ x o. h x (inr (inl o)))) y)
      (premises_by s z (λ x o. h x (inr (inr o))) k)

  -- substitutions that make one call of the left side do the same with premises of the equation
  pub asked_by : (e : ConditionalEquation) → HasNoLooseVariables e → (s z : ℕ → TermTree) → instance s e.left ≡ instance z e.left →
      {ps : List Premise} → ((x : ℕ) → OccursInPremises x ps → OccursInPremises x e.premises) → {number : ℕ}
      {es : List ConditionalEquation} {f : ℕ} {vs : TermTrees} {v : TermTree} {before now after : List Line} →
      Asked theory s ps e.right number es f vs v (use_of e number s) before now after →
      Asked theory z ps e.right number es f vs v (use_of e number z) before now after
  asked_by e t s z g {ps} within (one_fails h k) =
      one_fails (fails_by s z ps (λ x o. agree s z e.left g x (t.premises x (within x o))) h) k
  asked_by e t s z g {ps} within {number} {v = v} (all_hold premised reached h k q) =
      let same = agree s z e.left g in
      let u : use_of e number s ≡ use_of e number z = ap (uses number) (same_given s z e.left same) in
      all_hold premised reached (premises_by s z (λ x o. same x (t.premises x (within x o))) h)
      (subst (λ l. Writes theory (instance z e.right) v (premised ++ l ∷ [] ++ chain ∷ []) reached) u
      (subst (λ i. Writes theory i v (premised ++ use_of e number s ∷ [] ++ chain ∷ []) reached)
      (same_instance s z e.right (λ x o. same x (t.right x o))) k)) q

  -- lines are written behind those before
  abbrev Extends : List Line → List Line → Type 0
  Extends before after = (more : List Line) × (after ≡ before ++ more)

  extends_itself : (before after : List Line) → after ≡ before → Extends before after
  extends_itself before after e = ([], e ∙ sym (append-nil before))

  extends_on : (a b c : List Line) → Extends a b → Extends b c → Extends a c
  extends_on a b c h k = (h.0 ++ k.0, k.1 ∙ ap (λ ls. ls ++ k.0) h.1 ∙ append_assoc a h.0 k.0)

  extends_by : (a more : List Line) → Extends a (a ++ more)
  extends_by a more = (more, refl)

  mutual
    pub extends : {t v : TermTree} {before after : List Line} → Writes theory t v before after →
        (more : List Line) × (after ≡ before ++ more)
    extends {before = before} {after = after} (of_call {f} vs middle x y) =
        extends_on before (middle ++ inside f ∷ []) after
        (extends_on before middle (middle ++ inside f ∷ []) (all_extend x) (extends_by middle (inside f ∷ []))) (call_extends y)

    all_extend : {ts vs : TermTrees} {before after : List Line} → WritesAll theory ts vs before after → Extends before after
    all_extend {before = before} {after = after} (none_written e) = extends_itself before after e
    all_extend {before = before} {after = after} (one_written middle x y) = extends_on before middle after (extends x) (all_extend y)

    call_extends : {number f : ℕ} {es : List ConditionalEquation} {vs : TermTrees} {v : TermTree} {before after : List Line} →
        WritesCall theory number es f vs v before after → Extends before after
    call_extends {before = before} {after = after} (stays e k) = extends_itself before after k
    call_extends (passed h x) = call_extends x
    call_extends {number = number} {before = before} {after = after} (applied {e = e} s premised reached g x y k) =
        let line = use_of e number s in
        let a = extends_on before premised (premised ++ line ∷ [] ++ chain ∷ []) (premises_extend x)
        (extends_on premised (premised ++ line ∷ []) (premised ++ line ∷ [] ++ chain ∷ []) (extends_by premised (line ∷ []))
        (extends_by (premised ++ line ∷ []) (chain ∷ []))) in
        let b = extends_on before (premised ++ line ∷ [] ++ chain ∷ []) reached a (extends y) in
        extends_on before reached after b (chain ∷ [], k)

    premises_extend : {s : ℕ → TermTree} {ps : List Premise} {before after : List Line} → WritesPremises theory s ps before after →
        Extends before after
    premises_extend {before = before} {after = after} (none_left e) = extends_itself before after e
    premises_extend {before = before} {after = after} (one_holds w left right x y z) =
        let a = extends_on before left right (extends x) (extends y) in
        let b = extends_on right (right ++ turn ∷ []) (right ++ turn ∷ [] ++ chain ∷ []) (extends_by right (turn ∷ []))
        (extends_by (right ++ turn ∷ []) (chain ∷ [])) in
        let c = extends_on before right (right ++ turn ∷ [] ++ chain ∷ []) a b in
        extends_on before (right ++ turn ∷ [] ++ chain ∷ []) after c (premises_extend z)
