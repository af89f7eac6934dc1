-- The inference rules where values may be marks (this profile): what a behaviour may do by a tree of rules that looks at the first values
-- of each sort alone.
use Rattle.std.specs.Prelude.{ℕ, ◌≡◌, List, [], ◌∷◌, true}
use Rattle.spec_core.specs.Lists.{Each}
use Rattle.spec_core.specs.Code.{Program, Variable, Relabelling}
use Rattle.rule_model.specs.Behaviours.{Behaviour, relabel}
use Rattle.rule_model.specs.Constructs.{OnExit, OnInner, OnAction, OnChoice, OnGuarded, OnBound, OnValueChoice, OnGateChoice, OnParallel}
use Rattle.rule_model.specs.Constructs.{OnHide, OnEnable, OnDisable, OnCall, OnRelabel}
use Rattle.rule_model.specs.Derivations.{Derivation, pre, int, exiting, chl, chr, val, gate, guard, letting, parl, parr, both, hiding, pass}
use Rattle.rule_model.specs.Derivations.{enstep, enend, disstep, disend, distake, calling, rel}
use Rattle.rule_model.specs.Actions.{Kind, inside, ends, at_gate, among, IsAlone, IsJoint, IsUnhidden, IsNoEnd, IsEnd, renamed, pairs_of}
use Rattle.rule_model.specs.Code.{IsDefinition}
use Rattle.rule_model.specs.Fields.{OnGate}
use Rattle.symbolic_rules.specs.Windows.{Windows}
use Rattle.symbolic_rules.specs.MarkedTerms.{MarkedTerm, MarkedAssignment, unmarked, with_marked, PremiseMayHold, GuardMayHold}
use Rattle.symbolic_rules.specs.MarkedFields.{MarkedField, chosen_by, AllAgree, HaveSortsOf, IsWithin, Chooses, FieldsMayHave, ExitMayHave}
use Rattle.symbolic_rules.specs.MarkedFields.{BindingsMayHave, ArgumentsMayHave}

-- the kind of an action at the gate that stands in the place of its own
abbrev pub renamed_kind : List Relabelling → Kind → Kind
renamed_kind pairs inside = inside
renamed_kind pairs ends = ends
renamed_kind pairs (at_gate g) = at_gate (renamed pairs g)

module _ (program : Program) (w : Windows) where
  -- By the tree d, whose values may be marks, the behaviour b, with m x, a term or a mark, in the place of each free variable x, may do an
  -- action of the kind k with the fields fs. What it becomes isn't asked. One row for each kind of tree, as in `DerivesWith`:
  --   pre: a prefix acts at its gate, with what its fields may be, where its predicate holds or has a mark;
  --   int: an internal prefix does the internal action;
  --   exiting: an exit terminates, with what its fields may be;
  --   chl, chr: a choice may do what its left side may do, or what its right side may do;
  --   val: a choice of a value may do what its body may do with the chosen value for the variable; nothing gives this value, so it lies in
  --     the window of its sort, or is the mark where the window isn't complete;
  --   gate: a choice of a gate may do what its body may do, relabelled from the gate to the one at this place of the list;
  --   guard: a guarded behaviour may do what its body may do, where the premise holds or has a mark;
  --   letting: a `let` may do what its body may do with the values of the terms, or their marks, for their variables;
  --   parl, parr: one side of a parallel composition may do alone what is internal or at a gate that isn't synchronised;
  --   both: both sides may do together, by two trees, one action at a synchronised gate, or the termination, with fields that agree;
  --   hiding: what the body of a hiding may do at a hidden gate is internal; nobody else gives a value then, so what is only chosen lies in
  --     its window;
  --   pass: the body may do anything else;
  --   enstep: the left side of an enabling may do anything but terminate;
  --   enend: it may terminate, which is internal, with fields of the sorts of the variables; what is only chosen lies in its window;
  --   disstep: the left side of a disabling may do anything but terminate;
  --   disend: it may terminate;
  --   distake: the right side of a disabling may act;
  --   calling: a call may do what the process's body may do with the values of the terms, or their marks, for the process's variables,
  --     relabelled from the process's gates to those of the call;
  --   rel: a relabelled behaviour may do what its body may do, at the gate that stands in the place of the body's.
  abbrev pub MayDeriveWith : MarkedAssignment → Behaviour → Derivation → Kind → List MarkedField → Type 0
  MayDeriveWith m b (pre slots) k fs =
      OnAction b (λ g fields p rest.
      (r : MarkedAssignment) × (k ≡ at_gate g) × FieldsMayHave program.theory w m m fields slots fs r × GuardMayHold program.theory r p)
  MayDeriveWith m b int k fs = OnInner b (λ rest. (k ≡ inside) × (fs ≡ []))
  MayDeriveWith m b (exiting slots) k fs = OnExit b (λ fields. (k ≡ ends) × ExitMayHave program.theory w m fields slots fs)
  MayDeriveWith m b (chl d) k fs = OnChoice b (λ left right. MayDeriveWith m left d k fs)
  MayDeriveWith m b (chr d) k fs = OnChoice b (λ left right. MayDeriveWith m right d k fs)
  MayDeriveWith m b (val slot d) k fs =
      OnValueChoice b (λ x body.
      (n : MarkedTerm) × Chooses program.theory w slot x.sort n × IsWithin program.theory w (chosen_by n) ×
      MayDeriveWith (with_marked x n m) body d k fs)
  MayDeriveWith m b (gate j d) k fs =
      OnGateChoice b (λ g gates body. OnGate gates j (λ h. MayDeriveWith m (relabel (record { from = g; to = h } ∷ []) body) d k fs))
  MayDeriveWith m b (guard d) k fs = OnGuarded b (λ p body. PremiseMayHold program.theory m p × MayDeriveWith m body d k fs)
  MayDeriveWith m b (letting d) k fs =
      OnBound b (λ bindings body. (r : MarkedAssignment) × BindingsMayHave program.theory m m bindings r × MayDeriveWith r body d k fs)
  MayDeriveWith m b (parl d) k fs = OnParallel b (λ gates left right. MayDeriveWith m left d k fs × IsAlone gates k)
  MayDeriveWith m b (parr d) k fs = OnParallel b (λ gates left right. MayDeriveWith m right d k fs × IsAlone gates k)
  MayDeriveWith m b (both d e) k fs =
      OnParallel b (λ gates left right.
      (gs hs : List MarkedField) × MayDeriveWith m left d k gs × MayDeriveWith m right e k hs × IsJoint gates k ×
      AllAgree program.theory gs hs fs)
  MayDeriveWith m b (hiding d) k fs =
      OnHide b (λ gates body.
      (g : ℕ) × (gs : List MarkedField) × MayDeriveWith m body d (at_gate g) gs × (among g gates ≡ true) ×
      Each (IsWithin program.theory w) gs × (k ≡ inside) × (fs ≡ []))
  MayDeriveWith m b (pass d) k fs = OnHide b (λ gates body. MayDeriveWith m body d k fs × IsUnhidden gates k)
  MayDeriveWith m b (enstep d) k fs = OnEnable b (λ left xs right. MayDeriveWith m left d k fs × IsNoEnd k)
  MayDeriveWith m b (enend d) k fs =
      OnEnable b (λ left xs right.
      (gs : List MarkedField) × MayDeriveWith m left d ends gs × HaveSortsOf program.theory xs gs ×
      Each (IsWithin program.theory w) gs × (k ≡ inside) × (fs ≡ []))
  MayDeriveWith m b (disstep d) k fs = OnDisable b (λ left right. MayDeriveWith m left d k fs × IsNoEnd k)
  MayDeriveWith m b (disend d) k fs = OnDisable b (λ left right. MayDeriveWith m left d k fs × IsEnd k)
  MayDeriveWith m b (distake d) k fs = OnDisable b (λ left right. MayDeriveWith m right d k fs)
  MayDeriveWith m b (calling d) k fs =
      OnCall b (λ p actual terms.
      (formal : List ℕ) × (xs : List Variable) × (body : Behaviour) × (r : MarkedAssignment) × IsDefinition program p formal xs body ×
      ArgumentsMayHave program.theory m unmarked xs terms r × MayDeriveWith r (relabel (pairs_of formal actual) body) d k fs)
  MayDeriveWith m b (rel d) k fs =
      OnRelabel b (λ pairs body. (j : Kind) × MayDeriveWith m body d j fs × (k ≡ renamed_kind pairs j))

  -- by the tree d, whose values may be marks, the closed behaviour b may do an action of the kind k with the fields fs
  abbrev pub MayDerive : Behaviour → Derivation → Kind → List MarkedField → Type 0
  MayDerive b d k fs = MayDeriveWith unmarked b d k fs
