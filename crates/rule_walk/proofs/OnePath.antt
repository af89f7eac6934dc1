-- At most one rule of a tree is the first that doesn't fit.
use Rattle.std.proofs.Common.{ℕ, zero, suc, ◌≡◌, List, [], ◌∷◌, refl, sym, ap, subst, ◌∙◌}
use Rattle.spec_core.specs.Code.{Program, Variable}
use Rattle.spec_core.specs.Executable.{IsExecutable}
use Rattle.spec_core.specs.Terms.{TermTree, variable}
use Rattle.rule_laws.proofs.OneStep.{one_spelled, one_binding, one_argument, one_definition, one_gate}
use Rattle.rule_model.specs.declared.rules.Slot.TheVariants.{Of, Mark, Blank}
use Rattle.rule_model.specs.Actions.{pairs_of}
use Rattle.rule_model.specs.Behaviours.{Behaviour, choice, guarded, bound, value_choice, gate_choice, parallel, hide, enable, disable, call}
use Rattle.rule_model.specs.Behaviours.{relabel}
use Rattle.rule_model.specs.Derivations.{Derivation, chl, chr, val, gate, guard, letting, parl, parr, both, hiding, pass, enstep, enend}
use Rattle.rule_model.specs.Derivations.{disstep, disend, distake, calling, rel}
use Rattle.rule_model.specs.Fields.{ArgumentsHave}
use Rattle.rule_model.specs.Substitution.{Assignment, with_term}
use Rattle.rule_walk.specs.Laws.{OneRuleIsUnfit}
use Rattle.rule_walk.specs.Parts.{HasNone, OnFirst, OnSecond, At, IsUnfit, IsUnfitAt}
use Rattle.rule_walk.proofs.Misfits.{first_map}
use Rattle.rule_walk.proofs.NoStep.{second_map, unfit_none}

module _ (program : Program) (executable : IsExecutable program.theory) where
  -- two facts of the first part are of one part
  pub first_both : {R : Type 0} (d : Derivation) (b : Behaviour) (s : Assignment) (P Q : Assignment → Behaviour → Derivation → Type 0) →
      ((t : Assignment) (c : Behaviour) (e : Derivation) → P t c e → Q t c e → R) → OnFirst program s b d P → OnFirst program s b d Q → R
  first_both (chl d) (choice left right) s P Q r h k = r s left d h k
  first_both (chr d) (choice left right) s P Q r h k = r s right d h k
  first_both (val (Of v) d) (value_choice x body) s P Q r h k =
      let same : k.0 ≡ h.0 = one_spelled program.theory executable v k.0 h.0 x.sort k.1 h.1 in
      r (with_term x h.0 s) body d h.2 (subst (λ (n : TermTree). Q (with_term x n s) body d) same k.2)
  first_both (val (Of v) d) _ s P Q r h k = absurd h
  first_both (val Mark d) b s P Q r h k = absurd h
  first_both (val Blank d) b s P Q r h k = absurd h
  first_both (gate j d) (gate_choice g gates body) s P Q r h k =
      let same : k.1 ≡ h.1 = one_gate gates k.0 k.1 h.0 h.1 (sym k.2 ∙ h.2) k.3 h.3 in
      r s (relabel (record { from = g; to = h.1 } ∷ []) body) d h.4
      (subst (λ (n : ℕ). Q s (relabel (record { from = g; to = n } ∷ []) body) d) same k.4)
  first_both (guard d) (guarded p body) s P Q r h k = r s body d h.1 k.1
  first_both (letting d) (bound bindings body) s P Q r h k =
      let same : k.0 ≡ h.0 = one_binding program.theory executable s bindings s k.0 h.0 k.1 h.1 in
      r h.0 body d h.2 (subst (λ (t : Assignment). Q t body d) same k.2)
  first_both (parl d) (parallel gates left right) s P Q r h k = r s left d h k
  first_both (parr d) (parallel gates left right) s P Q r h k = r s right d h k
  first_both (both d e) (parallel gates left right) s P Q r h k = r s left d h k
  first_both (hiding d) (hide gates body) s P Q r h k = r s body d h k
  first_both (pass d) (hide gates body) s P Q r h k = r s body d h k
  first_both (enstep d) (enable left xs right) s P Q r h k = r s left d h k
  first_both (enend d) (enable left xs right) s P Q r h k = r s left d h k
  first_both (disstep d) (disable left right) s P Q r h k = r s left d h k
  first_both (disend d) (disable left right) s P Q r h k = r s left d h k
  first_both (distake d) (disable left right) s P Q r h k = r s right d h k
  first_both (calling d) (call p actual terms) s P Q r h k =
      let q = one_definition program p k.0 h.0 k.1 h.1 k.2 h.2 k.4 h.4 in
      let arguments = subst (λ (ys : List Variable). ArgumentsHave program.theory s variable ys terms k.3) q.1 k.5 in
      let same : k.3 ≡ h.3 = one_argument program.theory executable s h.1 terms variable k.3 h.3 arguments h.5 in
      let gates = subst (λ (formal : List ℕ). Q k.3 (relabel (pairs_of formal actual) k.2) d) q.0 k.6 in
      let body = subst (λ (b : Behaviour). Q k.3 (relabel (pairs_of h.0 actual) b) d) q.2 gates in
      r h.3 (relabel (pairs_of h.0 actual) h.2) d h.6
      (subst (λ (t : Assignment). Q t (relabel (pairs_of h.0 actual) h.2) d) same body)
  first_both (rel d) (relabel pairs body) s P Q r h k = r s body d h k
  first_both _ _ s P Q r h k = absurd h

  second_both : {R : Type 0} (d : Derivation) (b : Behaviour) (s : Assignment) (P Q : Assignment → Behaviour → Derivation → Type 0) →
      ((t : Assignment) (c : Behaviour) (e : Derivation) → P t c e → Q t c e → R) → OnSecond program s b d P → OnSecond program s b d Q → R
  second_both (both d e) (parallel gates left right) s P Q r h k = r s right e h.1 k.1
  second_both _ _ s P Q r h k = absurd h

  -- the second part is asked only where the first one gives a step
  not_before : (d : Derivation) (b : Behaviour) (s : Assignment) (P : Assignment → Behaviour → Derivation → Type 0) →
      OnFirst program s b d (HasNone program) → OnSecond program s b d P → ⊥
  not_before (both d e) (parallel gates left right) s P h k = h k.0
  not_before _ _ s P h k = absurd k

  -- the first part, and the second part, have no step where they don't fit
  first_lacks : (d : Derivation) (b : Behaviour) (s : Assignment) (path : List ℕ) → IsUnfitAt program s b d (zero ∷ path) →
      OnFirst program s b d (HasNone program)
  first_lacks d b s path =
      first_map program d b s (λ t c e. At program t c e path (IsUnfit program)) (HasNone program)
      (λ t c e. unfit_none program executable path e c t)

  second_lacks : (d : Derivation) (b : Behaviour) (s : Assignment) (path : List ℕ) → IsUnfitAt program s b d (suc zero ∷ path) →
      OnSecond program s b d (HasNone program)
  second_lacks d b s path =
      second_map program executable d b s (λ t c e. At program t c e path (IsUnfit program)) (HasNone program)
      (λ t c e. unfit_none program executable path e c t)

  one_path : (p q : List ℕ) (d : Derivation) (b : Behaviour) (s : Assignment) → IsUnfitAt program s b d p → IsUnfitAt program s b d q → p
      ≡ q
  one_path [] [] d b s h k = refl
  one_path [] (zero ∷ q) d b s h k = absurd (h.1 (first_lacks d b s q k))
  one_path [] (suc zero ∷ q) d b s h k = absurd (h.2 (second_lacks d b s q k))
  one_path [] (suc (suc n) ∷ q) d b s h k = absurd k
  one_path (zero ∷ p) [] d b s h k = absurd (k.1 (first_lacks d b s p h))
  one_path (suc zero ∷ p) [] d b s h k = absurd (k.2 (second_lacks d b s p h))
  one_path (suc (suc n) ∷ p) q d b s h k = absurd h
  one_path (zero ∷ p) (zero ∷ q) d b s h k =
      ap (λ (l : List ℕ). 0 ∷ l)
      (first_both d b s (λ t c e. At program t c e p (IsUnfit program)) (λ t c e. At program t c e q (IsUnfit program))
      (λ t c e. one_path p q e c t) h k)
  one_path (zero ∷ p) (suc zero ∷ q) d b s h k =
      absurd (not_before d b s (λ t c e. At program t c e q (IsUnfit program)) (first_lacks d b s p h) k)
  one_path (zero ∷ p) (suc (suc n) ∷ q) d b s h k = absurd k
  one_path (suc zero ∷ p) (zero ∷ q) d b s h k =
      absurd (not_before d b s (λ t c e. At program t c e p (IsUnfit program)) (first_lacks d b s q k) h)
  one_path (suc zero ∷ p) (suc zero ∷ q) d b s h k =
      ap (λ (l : List ℕ). 1 ∷ l)
      (second_both d b s (λ t c e. At program t c e p (IsUnfit program)) (λ t c e. At program t c e q (IsUnfit program))
      (λ t c e. one_path p q e c t) h k)
  one_path (suc zero ∷ p) (suc (suc n) ∷ q) d b s h k = absurd k

pub one_rule_is_unfit : OneRuleIsUnfit
one_rule_is_unfit program executable s b d p q h k = one_path program executable p q d b s h k
