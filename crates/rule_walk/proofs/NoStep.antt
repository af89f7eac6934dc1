-- Where a rule doesn't fit, the tree gives no step.
use Rattle.std.proofs.Common.{ℕ, zero, suc, ◌≡◌, List, [], ◌∷◌, sym, subst, ◌∙◌}
use Rattle.spec_core.specs.Code.{Program, Variable}
use Rattle.spec_core.specs.Executable.{IsExecutable}
use Rattle.spec_core.specs.Terms.{TermTree, variable}
use Rattle.rule_laws.proofs.OneStep.{one_spelled, one_binding, one_argument, one_definition, one_gate}
use Rattle.rule_model.specs.declared.action.Action.TheVariants.{Exit}
use Rattle.rule_model.specs.declared.rules.Slot.TheVariants.{Of, Mark, Blank}
use Rattle.rule_model.specs.Actions.{doing, pairs_of}
use Rattle.rule_model.specs.Behaviours.{Behaviour, choice, guarded, bound, value_choice, gate_choice, parallel, hide, enable, disable, call}
use Rattle.rule_model.specs.Behaviours.{relabel}
use Rattle.rule_model.specs.Derivations.{Derivation, chl, chr, val, gate, guard, letting, parl, parr, both, hiding, pass, enstep, enend}
use Rattle.rule_model.specs.Derivations.{disstep, disend, distake, calling, rel}
use Rattle.rule_model.specs.Derives.{DerivesWith}
use Rattle.rule_model.specs.Fields.{ArgumentsHave}
use Rattle.rule_model.specs.Substitution.{Assignment, with_term}
use Rattle.rule_walk.specs.Parts.{HasNone, OnFirst, OnSecond, At, IsUnfit, IsUnfitAt}
use Rattle.rule_walk.proofs.Misfits.{first_map}

module _ (program : Program) (executable : IsExecutable program.theory) where
  -- without a step of its first part a rule gives none
  first_none : (d : Derivation) (b : Behaviour) (s : Assignment) → OnFirst program s b d (HasNone program) → HasNone program s b d
  first_none (chl d) (choice left right) s h k = h k
  first_none (chr d) (choice left right) s h k = h k
  first_none (val (Of v) d) (value_choice x body) s h k =
      let same : k.2.0 ≡ h.0 = one_spelled program.theory executable v k.2.0 h.0 x.sort k.2.1 h.1 in
      h.2 (k.0, k.1, subst (λ (n : TermTree). DerivesWith program (with_term x n s) body d k.0 k.1) same k.2.2)
  first_none (val (Of v) d) _ s h k = absurd h
  first_none (val Mark d) b s h k = absurd h
  first_none (val Blank d) b s h k = absurd h
  first_none (gate j d) (gate_choice g gates body) s h k =
      let same : k.2.1 ≡ h.1 = one_gate gates k.2.0 k.2.1 h.0 h.1 (sym k.2.2 ∙ h.2) k.2.3 h.3 in
      h.4 (k.0, k.1, subst (λ (n : ℕ). DerivesWith program s (relabel (record { from = g; to = n } ∷ []) body) d k.0 k.1) same k.2.4)
  first_none (guard d) (guarded p body) s h k = h.1 (k.0, k.1, k.2.1)
  first_none (letting d) (bound bindings body) s h k =
      let same : k.2.0 ≡ h.0 = one_binding program.theory executable s bindings s k.2.0 h.0 k.2.1 h.1 in
      h.2 (k.0, k.1, subst (λ (t : Assignment). DerivesWith program t body d k.0 k.1) same k.2.2)
  first_none (parl d) (parallel gates left right) s h k = h (k.0, k.2.0, k.2.1)
  first_none (parr d) (parallel gates left right) s h k = h (k.0, k.2.0, k.2.1)
  first_none (both d e) (parallel gates left right) s h k = h (k.0, k.2.0, k.2.2)
  first_none (hiding d) (hide gates body) s h k = h (doing k.2.0 k.2.1, k.2.2, k.2.3)
  first_none (pass d) (hide gates body) s h k = h (k.0, k.2.0, k.2.1)
  first_none (enstep d) (enable left xs right) s h k = h (k.0, k.2.0, k.2.1)
  first_none (enend d) (enable left xs right) s h k = h (Exit k.2.0, k.2.1, k.2.3)
  first_none (disstep d) (disable left right) s h k = h (k.0, k.2.0, k.2.1)
  first_none (disend d) (disable left right) s h k = h (k.0, k.1, k.2.0)
  first_none (distake d) (disable left right) s h k = h k
  first_none (calling d) (call p actual terms) s h k =
      let q = one_definition program p k.2.0 h.0 k.2.1 h.1 k.2.2 h.2 k.2.4 h.4 in
      let arguments = subst (λ (ys : List Variable). ArgumentsHave program.theory s variable ys terms k.2.3) q.1 k.2.5 in
      let same : k.2.3 ≡ h.3 = one_argument program.theory executable s h.1 terms variable k.2.3 h.3 arguments h.5 in
      let gates = subst (λ (formal : List ℕ). DerivesWith program k.2.3 (relabel (pairs_of formal actual) k.2.2) d k.0 k.1) q.0 k.2.6 in
      let body = subst (λ (b : Behaviour). DerivesWith program k.2.3 (relabel (pairs_of h.0 actual) b) d k.0 k.1) q.2 gates in
      h.6 (k.0, k.1, subst (λ (t : Assignment). DerivesWith program t (relabel (pairs_of h.0 actual) h.2) d k.0 k.1) same body)
  first_none (rel d) (relabel pairs body) s h k = h (k.2.0, k.2.1, k.2.2)
  first_none _ _ s h k = absurd h

  second_none : (d : Derivation) (b : Behaviour) (s : Assignment) → OnSecond program s b d (HasNone program) → HasNone program s b d
  second_none (both d e) (parallel gates left right) s h k = h.1 (k.0, k.2.1, k.2.3)
  second_none _ _ s h k = absurd h

  pub second_map : (d : Derivation) (b : Behaviour) (s : Assignment) (P Q : Assignment → Behaviour → Derivation → Type 0) →
      ((t : Assignment) (c : Behaviour) (e : Derivation) → P t c e → Q t c e) → OnSecond program s b d P → OnSecond program s b d Q
  second_map (both d e) (parallel gates left right) s P Q k h = (h.0, k s right e h.1)
  second_map _ _ s P Q k h = absurd h

  pub unfit_none : (path : List ℕ) (d : Derivation) (b : Behaviour) (s : Assignment) → IsUnfitAt program s b d path → HasNone program s b d
  unfit_none [] d b s h = h.0
  unfit_none (zero ∷ path) d b s h =
      first_none d b s
      (first_map program d b s (λ t c e. At program t c e path (IsUnfit program)) (HasNone program) (λ t c e. unfit_none path e c t) h)
  unfit_none (suc zero ∷ path) d b s h =
      second_none d b s
      (second_map d b s (λ t c e. At program t c e path (IsUnfit program)) (HasNone program) (λ t c e. unfit_none path e c t) h)
  unfit_none (suc (suc n) ∷ path) d b s h = absurd h
