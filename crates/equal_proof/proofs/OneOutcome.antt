-- Certificates have one outcome.
use Rattle.std.proofs.Common.{ℕ, zero, suc, ◌≡◌, ◌<◌, ◌≤◌, ◌+◌, ◌⊎◌, List, [], ◌∷◌, ◌++◌, length, map, take, refl, sym, ap, subst, ◌∙◌}
use Rattle.std.proofs.Common.{arith, inl, inr, Some, None}
use Rattle.std.proofs.lemmas.Bool.{cases_lt}
use Rattle.std.proofs.lemmas.List.{length-append, length-map, take_all}
use Rattle.std.proofs.lemmas.Option.{slice_get_past}
use Rattle.std.specs.List.{slice_get}
use Rattle.spec_core.specs.Lists.{Each}
use Rattle.spec_core.specs.Sorts.{FitsGround}
use Rattle.spec_core.specs.Terms.{TermTree, instance, preorder, terms}
use Rattle.spec_core.specs.Theories.{Operation, Theory}
use Rattle.spec_core.proofs.Instances.{on_both}
use Rattle.value_table.proofs.Spelled.{halves, list_length, list_of, one_spelling, spelling_one}
use Rattle.equal_proof.specs.declared.proof.ProofStep.{ProofStep}
use Rattle.equal_proof.specs.declared.proof.ProofStep.TheVariants.{Same, Turn, Chain, Inside, Use}
use Rattle.equal_proof.specs.Certificates.{Sides, left_of, premise_instance, variables_of, bound_by, IsInside, Infers, StepOf, Runs}
use Rattle.equal_proof.specs.Certificates.{Proves, FailsAt, IsStuck}
use Rattle.equal_proof.specs.Laws.{CertificatesHaveOneOutcome}
use Rattle.equal_proof.proofs.Bound.{variables_fit}

pub ends : {A : Type 0} (xs ys zs ws : List A) → length ys ≡ length ws → xs ++ ys ≡ zs ++ ws → (xs ≡ zs) × (ys ≡ ws)
ends xs ys zs ws l e =
    let a = length-append xs ys in
    let b = length-append zs ws in
    let c = ap length e in
    halves xs ys zs ws (omega (arith, a, b, c, l)) e

-- the sides of the first equation, and the equations behind it
abbrev pub first_left : TermTree → List Sides → TermTree
first_left t [] = t
first_left t (p ∷ ps) = p.0

abbrev pub first_right : TermTree → List Sides → TermTree
first_right t [] = t
first_right t (p ∷ ps) = p.1

abbrev pub first_of : Sides → List Sides → Sides
first_of x [] = x
first_of x (p ∷ ps) = p

abbrev pub rest_of : List Sides → List Sides
rest_of [] = []
rest_of (p ∷ ps) = ps

pub list_of_terms : (ts : List TermTree) → list_of (terms ts) ≡ ts
list_of_terms [] = refl
list_of_terms (t ∷ ts) = ap (λ us. t ∷ us) (list_of_terms ts)

module _ (theory : Theory) where
  -- a list of operations spells one term of the data
  pub one_term : (fs : List ℕ) (t u : TermTree) → FitsGround theory t → FitsGround theory u → fs ≡ preorder t → fs ≡ preorder u → t ≡ u
  one_term fs t u a b p q =
      let e = one_spelling theory fs (t ∷ []) (u ∷ []) (a, tt) (b, tt) (p ∙ spelling_one t) (q ∙ spelling_one u) in
      cc

  pub one_list : (values : List (List ℕ)) (ts us : List TermTree) → Each (FitsGround theory) ts → Each (FitsGround theory) us →
      values ≡ map preorder ts → values ≡ map preorder us → ts ≡ us
  one_list values [] [] a b p q = refl
  one_list values [] (u ∷ us) a b p q = absurd (let n : [] ≡ preorder u ∷ map preorder us = sym p ∙ q in cc)
  one_list values (t ∷ ts) [] a b p q = absurd (let n : [] ≡ preorder t ∷ map preorder ts = sym q ∙ p in cc)
  one_list values (t ∷ ts) (u ∷ us) a b p q =
      let n : preorder t ∷ map preorder ts ≡ preorder u ∷ map preorder us = sym p ∙ q in
      let h : preorder t ≡ preorder u = cc in
      let r : map preorder ts ≡ map preorder us = cc in
      ap (λ x. x ∷ ts) (one_term (preorder t) t u a.0 b.0 refl h) ∙ ap (λ xs. u ∷ xs) (one_list (map preorder ts) ts us a.1 b.1 refl r)

  pub inside_length : (d : Operation) (taken : List Sides) → IsInside theory d taken → length taken ≡ length d.args
  inside_length d taken h =
      let a = list_length theory (terms (map left_of taken)) d.args h.0 in
      let b : length (list_of (terms (map left_of taken))) ≡ length (map left_of taken) = ap length (list_of_terms (map left_of taken)) in
      let c = length-map taken left_of in
      omega (arith, a, b, c)

  one_count : (step : ProofStep) (taken others : List Sides) (put other : Sides) → Infers theory step taken put →
      Infers theory step others other → length taken ≡ length others
  one_count (Same value) taken others put other h k = ap length (h.3 ∙ sym k.3)
  one_count Turn taken others put other h k = ap length h.2 ∙ sym (ap length k.2)
  one_count Chain taken others put other h k = ap length h.3 ∙ sym (ap length k.3)
  one_count (Inside f) taken others put other h k =
      on_both (slice_get theory.operations f.0) h.0 k.0 (λ d p q. inside_length d taken p ∙ sym (inside_length d others q))
  one_count (Use equation values) taken others put other h k =
      on_both (slice_get theory.equations equation) h k
      (λ e p q. ap length p.3.0 ∙ length-map e.premises (premise_instance (bound_by (variables_of e.left) p.0))
      ∙ sym (ap length q.3.0 ∙ length-map e.premises (premise_instance (bound_by (variables_of e.left) q.0))))

  one_put : (step : ProofStep) (taken : List Sides) (put other : Sides) → Infers theory step taken put →
      Infers theory step taken other → put ≡ other
  one_put (Same value) taken put other h k =
      h.4 ∙ ap (λ (t : TermTree). (t, t)) (one_term value h.0 k.0 h.1 k.1 h.2 k.2) ∙ sym k.4
  one_put Turn taken put other h k =
      let e : ◌≡◌ {A = List Sides} ((h.0, h.1) ∷ []) ((k.0, k.1) ∷ []) = sym h.2 ∙ k.2 in
      let a : h.0 ≡ k.0 = ap (first_left h.0) e in
      let b : h.1 ≡ k.1 = ap (first_right h.1) e in
      h.3 ∙ ap (λ (t : TermTree). (t, h.0)) b ∙ ap (λ (t : TermTree). (k.1, t)) a ∙ sym k.3
  one_put Chain taken put other h k =
      let e : ◌≡◌ {A = List Sides} ((h.0, h.1) ∷ (h.1, h.2) ∷ []) ((k.0, k.1) ∷ (k.1, k.2) ∷ []) = sym h.3 ∙ k.3 in
      let a : h.0 ≡ k.0 = ap (first_left h.0) e in
      let b : h.2 ≡ k.2 = ap (λ ps. first_right h.2 (rest_of ps)) e in
      h.4 ∙ ap (λ (t : TermTree). (t, h.2)) a ∙ ap (λ (t : TermTree). (k.0, t)) b ∙ sym k.4
  one_put (Inside f) taken put other h k = h.1 ∙ sym k.1
  one_put (Use equation values) taken put other h k =
      on_both (slice_get theory.equations equation) h k
      (λ e p q.
      p.3.1 ∙ ap (λ ts. (instance (bound_by (variables_of e.left) ts) e.left, instance (bound_by (variables_of e.left) ts) e.right))
      (one_list values.items p.0 q.0 (variables_fit theory e.sorts (variables_of e.left) p.0 p.2)
      (variables_fit theory e.sorts (variables_of e.left) q.0 q.2) p.1 q.1) ∙ sym q.3.1)

  pub one_step : (step : ProofStep) (old new other : List Sides) → StepOf theory step old new → StepOf theory step old other → new ≡ other
  one_step step old new other h k =
      let l = one_count step h.taken k.taken h.put k.put h.inferred k.inferred in
      let e = ends h.rest h.taken k.rest k.taken l (sym h.before ∙ k.before) in
      let p = one_put step k.taken h.put k.put (subst (λ taken. Infers theory step taken h.put) e.1 h.inferred) k.inferred in
      h.after ∙ ap (λ rest. rest ++ h.put ∷ []) e.0 ∙ ap (λ (put : Sides). k.rest ++ put ∷ []) p ∙ sym k.after

  one_run : (steps : List ProofStep) (old new other : List Sides) → Runs theory steps old new → Runs theory steps old other → new ≡ other
  one_run [] old new other h k = h ∙ sym k
  one_run (step ∷ steps) old new other h k =
      let e = one_step step old h.0 k.0 h.1 k.1 in
      one_run steps k.0 new other (subst (λ middle. Runs theory steps middle new) e h.2) k.2

  -- a run passes each of its steps
  record Passes (steps : List ProofStep) (number : ℕ) (old : List Sides) : Type 0 where
    step : ProofStep
    middle : List Sides
    next : List Sides
    here : slice_get steps number ≡ Some step
    before : Runs theory (take number steps) old middle
    steps_on : StepOf theory step middle next

  passes : (steps : List ProofStep) (m n : ℕ) (old new : List Sides) → m < n → n ≤ length steps → Runs theory (take n steps) old new →
      Passes steps m old
  passes [] m n old new l w h = absurd (omega (arith, l, w))
  passes (s ∷ steps) m zero old new l w h = absurd (omega (arith, l))
  passes (s ∷ steps) zero (suc n) old new l w h =
      record { step = s; middle = old; next = h.0; here = refl; before = refl; steps_on = h.1 }
  passes (s ∷ steps) (suc m) (suc n) old new l w h =
      let r = passes steps m n h.0 new (omega (arith, l)) (omega (arith, w)) h.2 in
      record { step = r.step; middle = r.middle; next = r.next; here = r.here; before = (h.0, h.1, r.before); steps_on = r.steps_on }

  not_before : (steps : List ProofStep) (m n : ℕ) (new : List Sides) → FailsAt theory steps m → m < n → n ≤ length steps →
      Runs theory (take n steps) [] new → ⊥
  not_before steps m n new f l w h =
      let r = passes steps m n [] new l w h in
      let e = one_run (take m steps) [] f.stack r.middle f.before r.before in
      let stuck : IsStuck theory (Some r.step) f.stack = subst (λ o. IsStuck theory o f.stack) r.here f.stuck in
      stuck r.next (subst (λ stack. StepOf theory r.step stack r.next) (sym e) r.steps_on)

  one_fault : (steps : List ProofStep) (m n : ℕ) → FailsAt theory steps m → FailsAt theory steps n → m ≡ n
  one_fault steps m n f g = by (cases_lt m n) (cases_lt n m)
    where
      by : (m < n) ⊎ (n ≤ m) → (n < m) ⊎ (m ≤ n) → m ≡ n
      by (inl l) b = absurd (not_before steps m n g.stack f l g.within g.before)
      by (inr l) (inl k) = absurd (not_before steps n m f.stack g k f.within f.before)
      by (inr l) (inr k) = omega (arith, l, k)

  not_both : (steps : List ProofStep) (n : ℕ) (t u : TermTree) → FailsAt theory steps n → Proves theory steps t u → ⊥
  not_both steps n t u f h = by (cases_lt n (length steps))
    where
      whole : (k : ℕ) → length steps ≤ k → Runs theory (take k steps) [] ((t, u) ∷ [])
      whole k l = subst (λ ss. Runs theory ss [] ((t, u) ∷ [])) (sym (take_all k steps l)) h

      by : (n < length steps) ⊎ (length steps ≤ n) → ⊥
      by (inl l) = not_before steps n (length steps) ((t, u) ∷ []) f l (omega arith) (whole (length steps) (omega arith))
      by (inr l) =
          let e = one_run (take n steps) [] f.stack ((t, u) ∷ []) f.before (whole n l) in
          let stuck : IsStuck theory None f.stack = subst (λ o. IsStuck theory o f.stack) (slice_get_past steps n l) f.stuck in
          stuck (t, u) e

pub certificates_have_one_outcome : CertificatesHaveOneOutcome
certificates_have_one_outcome = record {
  equation = λ theory steps t u v w h k.
      let e = one_run theory steps [] ((t, u) ∷ []) ((v, w) ∷ []) h k in
      (ap (first_left t) e, ap (first_right u) e);
  fault = λ theory steps m n f g. one_fault theory steps m n f g;
  apart = λ theory steps n t u f h. not_both theory steps n t u f h;
}
