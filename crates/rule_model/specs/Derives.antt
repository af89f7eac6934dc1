-- The inference rules (ISO 8807, dynamic semantics of behaviour expressions): what a behaviour does by a tree of rules, and what it
-- becomes.
use Rattle.std.specs.Prelude.{ℕ, ◌≡◌, List, [], ◌∷◌, true}
use Rattle.spec_core.specs.Terms.{TermTree, variable}
use Rattle.spec_core.specs.Code.{Program, Variable}
use Rattle.rule_model.specs.declared.action.Action.{Action}
use Rattle.rule_model.specs.declared.action.Action.TheVariants.{Inner, Exit}
use Rattle.rule_model.specs.declared.rules.Slot.TheVariants.{Of, Mark, Blank}
use Rattle.rule_model.specs.Behaviours.{Behaviour, stop, parallel, hide, enable, disable, relabel}
use Rattle.rule_model.specs.Constructs.{OnExit, OnInner, OnAction, OnChoice, OnGuarded, OnBound, OnValueChoice, OnGateChoice, OnParallel}
use Rattle.rule_model.specs.Constructs.{OnHide, OnEnable, OnDisable, OnCall, OnRelabel}
use Rattle.rule_model.specs.Derivations.{Derivation, pre, int, exiting, chl, chr, val, gate, guard, letting, parl, parr, both, hiding, pass}
use Rattle.rule_model.specs.Derivations.{enstep, enend, disstep, disend, distake, calling, rel}
use Rattle.rule_model.specs.Actions.{kind_of, doing, among, IsAlone, IsJoint, IsUnhidden, IsNoEnd, IsEnd, renamed_action, pairs_of}
use Rattle.rule_model.specs.Substitution.{Assignment, with_term, without, put, tidied}
use Rattle.rule_model.specs.Code.{IsDefinition}
use Rattle.rule_model.specs.Fields.{Spells, PremiseHolds, GuardHolds, FieldsHave, ExitHas, BindingsHave, ArgumentsHave, IsHandedOn, OnGate}

module _ (program : Program) where
  -- By the tree d, the behaviour b, with s x in the place of each free variable x, does the action a and becomes c. One row for each kind
  -- of tree:
  --   pre: a prefix acts at its gate, with the values of its fields, where its predicate holds, and becomes what follows it;
  --   int: an internal prefix does the internal action, and becomes what follows it;
  --   exiting: an exit terminates, with the values of its fields, and becomes `stop`;
  --   chl, chr: a choice does what its left side does, or what its right side does, and becomes the same; the other side is lost;
  --   val: a choice of a value does what its body does with the chosen value, a value of its sort, for the variable;
  --   gate: a choice of a gate does what its body does, relabelled from the gate to the one at this place of the list;
  --   guard: a guarded behaviour does what its body does, where the premise holds;
  --   letting: a `let` does what its body does with the values of the terms for their variables;
  --   parl, parr: one side of a parallel composition does alone what is internal or at a gate that isn't synchronised; the other stays;
  --   both: both sides do together, by two trees, one action at a synchronised gate, or the termination, with the same values;
  --   hiding: what the body of a hiding does at a hidden gate is internal;
  --   pass: the body does anything else;
  --   enstep: the left side of an enabling does anything but terminate;
  --   enend: it terminates, which is internal, and the right side begins, with the values for the variables;
  --   disstep: the left side of a disabling does anything but terminate, and can still be disabled;
  --   disend: it terminates, and the right side is lost;
  --   distake: the right side of a disabling acts, and the left side is lost;
  --   calling: a call does what the process's body does with the values of the terms for the process's variables, relabelled from the
  --     process's gates to those of the call;
  --   rel: a relabelled behaviour does what its body does, at the gate that stands in the place of the body's, and stays relabelled.
  abbrev pub DerivesWith : Assignment → Behaviour → Derivation → Action → Behaviour → Type 0
  DerivesWith s b (pre slots) a c =
      OnAction b (λ g fields p rest.
      (values : List (List ℕ)) × (t : Assignment) × (a ≡ doing g values) × FieldsHave program.theory s s fields slots values t ×
      GuardHolds program.theory t p × (c ≡ put t rest))
  DerivesWith s b int a c = OnInner b (λ rest. (a ≡ Inner) × (c ≡ put s rest))
  DerivesWith s b (exiting slots) a c =
      OnExit b (λ fields. (values : List (List ℕ)) × (a ≡ Exit values) × ExitHas program.theory s fields slots values × (c ≡ stop))
  DerivesWith s b (chl d) a c = OnChoice b (λ left right. DerivesWith s left d a c)
  DerivesWith s b (chr d) a c = OnChoice b (λ left right. DerivesWith s right d a c)
  DerivesWith s b (val (Of v) d) a c =
      OnValueChoice b (λ x body. (n : TermTree) × Spells program.theory v n x.sort × DerivesWith (with_term x n s) body d a c)
  DerivesWith s b (val Mark d) a c = ⊥
  DerivesWith s b (val Blank d) a c = ⊥
  DerivesWith s b (gate j d) a c =
      OnGateChoice b (λ g gates body. OnGate gates j (λ h. DerivesWith s (relabel (record { from = g; to = h } ∷ []) body) d a c))
  DerivesWith s b (guard d) a c = OnGuarded b (λ p body. PremiseHolds program.theory s p × DerivesWith s body d a c)
  DerivesWith s b (letting d) a c =
      OnBound b (λ bindings body. (t : Assignment) × BindingsHave program.theory s s bindings t × DerivesWith t body d a c)
  DerivesWith s b (parl d) a c =
      OnParallel b (λ gates left right.
      (e : Behaviour) × DerivesWith s left d a e × IsAlone gates (kind_of a) × (c ≡ parallel gates e (put s right)))
  DerivesWith s b (parr d) a c =
      OnParallel b (λ gates left right.
      (f : Behaviour) × DerivesWith s right d a f × IsAlone gates (kind_of a) × (c ≡ parallel gates (put s left) f))
  DerivesWith s b (both d e) a c =
      OnParallel b (λ gates left right.
      (f g : Behaviour) × DerivesWith s left d a f × DerivesWith s right e a g × IsJoint gates (kind_of a) × (c ≡ parallel gates f g))
  DerivesWith s b (hiding d) a c =
      OnHide b (λ gates body.
      (g : ℕ) × (values : List (List ℕ)) × (e : Behaviour) × DerivesWith s body d (doing g values) e × (among g gates ≡ true) ×
      (a ≡ Inner) × (c ≡ hide gates e))
  DerivesWith s b (pass d) a c =
      OnHide b (λ gates body. (e : Behaviour) × DerivesWith s body d a e × IsUnhidden gates (kind_of a) × (c ≡ hide gates e))
  DerivesWith s b (enstep d) a c =
      OnEnable b (λ left xs right.
      (e : Behaviour) × DerivesWith s left d a e × IsNoEnd (kind_of a) × (c ≡ enable e xs (put (without xs s) right)))
  DerivesWith s b (enend d) a c =
      OnEnable b (λ left xs right.
      (values : List (List ℕ)) × (e : Behaviour) × (t : Assignment) × DerivesWith s left d (Exit values) e × (a ≡ Inner) ×
      IsHandedOn program.theory s xs values t × (c ≡ put t right))
  DerivesWith s b (disstep d) a c =
      OnDisable b (λ left right.
      (e : Behaviour) × DerivesWith s left d a e × IsNoEnd (kind_of a) × (c ≡ disable e (put s right)))
  DerivesWith s b (disend d) a c = OnDisable b (λ left right. DerivesWith s left d a c × IsEnd (kind_of a))
  DerivesWith s b (distake d) a c = OnDisable b (λ left right. DerivesWith s right d a c)
  DerivesWith s b (calling d) a c =
      OnCall b (λ p actual terms.
      (formal : List ℕ) × (xs : List Variable) × (body : Behaviour) × (t : Assignment) × IsDefinition program p formal xs body ×
      ArgumentsHave program.theory s variable xs terms t × DerivesWith t (relabel (pairs_of formal actual) body) d a c)
  DerivesWith s b (rel d) a c =
      OnRelabel b (λ pairs body.
      (e : Action) × (f : Behaviour) × DerivesWith s body d e f × (a ≡ renamed_action pairs e) × (c ≡ tidied pairs f))

  -- by the tree d, the closed behaviour b does the action a and becomes c
  abbrev pub Derives : Behaviour → Derivation → Action → Behaviour → Type 0
  Derives b d a c = DerivesWith variable b d a c

  -- no rule gives the behaviour a step
  abbrev pub NoStep : Behaviour → Type 0
  NoStep b = (d : Derivation) (a : Action) (c : Behaviour) → Derives b d a c → ⊥

  -- some rule gives the behaviour a step
  pub record SomeStep (b : Behaviour) : Type 0 where
    pub tree : Derivation
    pub action : Action
    pub rest : Behaviour
    pub derives : Derives b tree action rest
