-- The parts that a tree of rules asks, in their order, and the first rule that doesn't fit.
use Rattle.std.specs.Prelude.{ℕ, zero, suc, List, [], ◌∷◌}
use Rattle.spec_core.specs.Terms.{TermTree, variable}
use Rattle.spec_core.specs.Code.{Program, Variable}
use Rattle.rule_model.specs.declared.action.Action.{Action}
use Rattle.rule_model.specs.declared.rules.Slot.TheVariants.{Of}
use Rattle.rule_model.specs.Actions.{pairs_of}
use Rattle.rule_model.specs.Behaviours.{Behaviour, relabel}
use Rattle.rule_model.specs.Code.{IsDefinition}
use Rattle.rule_model.specs.Constructs.{OnChoice, OnGuarded, OnBound, OnValueChoice, OnGateChoice, OnParallel, OnHide, OnEnable, OnDisable}
use Rattle.rule_model.specs.Constructs.{OnCall, OnRelabel}
use Rattle.rule_model.specs.Derivations.{Derivation, chl, chr, val, gate, guard, letting, parl, parr, both, hiding, pass, enstep, enend}
use Rattle.rule_model.specs.Derivations.{disstep, disend, distake, calling, rel}
use Rattle.rule_model.specs.Derives.{DerivesWith}
use Rattle.rule_model.specs.Fields.{Spells, PremiseHolds, BindingsHave, ArgumentsHave, OnGate}
use Rattle.rule_model.specs.Substitution.{Assignment, with_term}

module _ (program : Program) where
  -- by the tree the behaviour does something; by it it does nothing
  abbrev pub HasStep : Assignment → Behaviour → Derivation → Type 0
  HasStep s b d = (a : Action) × (c : Behaviour) × DerivesWith program s b d a c

  abbrev pub HasNone : Assignment → Behaviour → Derivation → Type 0
  HasNone s b d = HasStep s b d → ⊥

  -- The fact holds of the part that the rule asks first: of the terms for its variables, its behaviour and its tree. The rule's own
  -- construct fits, its expressions have values, its chosen value is of its sort, and its premise holds.
  abbrev pub OnFirst : Assignment → Behaviour → Derivation → (Assignment → Behaviour → Derivation → Type 0) → Type 0
  OnFirst s b (chl d) P = OnChoice b (λ left right. P s left d)
  OnFirst s b (chr d) P = OnChoice b (λ left right. P s right d)
  OnFirst s b (val (Of v) d) P =
      OnValueChoice b (λ x body. (n : TermTree) × Spells program.theory v n x.sort × P (with_term x n s) body d)
  OnFirst s b (gate j d) P =
      OnGateChoice b (λ g gates body. OnGate gates j (λ h. P s (relabel (record { from = g; to = h } ∷ []) body) d))
  OnFirst s b (guard d) P = OnGuarded b (λ p body. PremiseHolds program.theory s p × P s body d)
  OnFirst s b (letting d) P = OnBound b (λ bindings body. (t : Assignment) × BindingsHave program.theory s s bindings t × P t body d)
  OnFirst s b (parl d) P = OnParallel b (λ gates left right. P s left d)
  OnFirst s b (parr d) P = OnParallel b (λ gates left right. P s right d)
  OnFirst s b (both d e) P = OnParallel b (λ gates left right. P s left d)
  OnFirst s b (hiding d) P = OnHide b (λ gates body. P s body d)
  OnFirst s b (pass d) P = OnHide b (λ gates body. P s body d)
  OnFirst s b (enstep d) P = OnEnable b (λ left xs right. P s left d)
  OnFirst s b (enend d) P = OnEnable b (λ left xs right. P s left d)
  OnFirst s b (disstep d) P = OnDisable b (λ left right. P s left d)
  OnFirst s b (disend d) P = OnDisable b (λ left right. P s left d)
  OnFirst s b (distake d) P = OnDisable b (λ left right. P s right d)
  OnFirst s b (calling d) P =
      OnCall b (λ p actual terms.
      (formal : List ℕ) × (xs : List Variable) × (body : Behaviour) × (t : Assignment) × IsDefinition program p formal xs body ×
      ArgumentsHave program.theory s variable xs terms t × P t (relabel (pairs_of formal actual) body) d)
  OnFirst s b (rel d) P = OnRelabel b (λ pairs body. P s body d)
  OnFirst s b _ P = ⊥

  -- the same of the part that the rule asks next, once the first does something by its tree
  abbrev pub OnSecond : Assignment → Behaviour → Derivation → (Assignment → Behaviour → Derivation → Type 0) → Type 0
  OnSecond s b (both d e) P = OnParallel b (λ gates left right. HasStep s left d × P s right e)
  OnSecond s b _ P = ⊥

  -- the same of the part at this path of the tree, 0 for the first part and 1 for the second
  abbrev pub At : Assignment → Behaviour → Derivation → List ℕ → (Assignment → Behaviour → Derivation → Type 0) → Type 0
  At s b d [] P = P s b d
  At s b d (zero ∷ path) P = OnFirst s b d (λ t c e. At t c e path P)
  At s b d (suc zero ∷ path) P = OnSecond s b d (λ t c e. At t c e path P)
  At s b d (suc (suc n) ∷ path) P = ⊥

  -- the rule at the root gives no step, though no part that it asks is without one
  abbrev pub IsUnfit : Assignment → Behaviour → Derivation → Type 0
  IsUnfit s b d = HasNone s b d × (OnFirst s b d HasNone → ⊥) × (OnSecond s b d HasNone → ⊥)

  -- the rule at this path gives no step, though each part that is asked before it does, and no part that it asks is without one
  abbrev pub IsUnfitAt : Assignment → Behaviour → Derivation → List ℕ → Type 0
  IsUnfitAt s b d path = At s b d path IsUnfit
