-- What a rule over its part makes of what the part does.
use Rattle.std.proofs.Common.{ℕ, ◌≡◌, List, [], ◌∷◌, refl, sym, subst, ◌∙◌}
use Rattle.spec_core.specs.Executable.{IsExecutable}
use Rattle.spec_core.specs.Terms.{TermTree, variable}
use Rattle.spec_core.specs.Code.{Program, Variable}
use Rattle.rule_laws.proofs.OneStep.{one_binding, one_argument, one_definition, one_gate}
use Rattle.rule_model.specs.declared.action.Action.{Action}
use Rattle.rule_model.specs.declared.rules.Slot.TheVariants.{Of, Mark, Blank}
use Rattle.rule_model.specs.Actions.{pairs_of}
use Rattle.rule_model.specs.Behaviours.{Behaviour, choice, guarded, bound, value_choice, gate_choice, parallel, hide}
use Rattle.rule_model.specs.Behaviours.{enable, disable, call, relabel}
use Rattle.rule_model.specs.Derivations.{Derivation}
use Rattle.rule_model.specs.Derives.{DerivesWith}
use Rattle.rule_model.specs.Fields.{ArgumentsHave}
use Rattle.rule_model.specs.Substitution.{Assignment, with_term}
use Rattle.rule_origins.specs.Values.{term_spelled}
use Rattle.rule_origins.proofs.Reading.{values_are_read}
use Rattle.symbolic_plans.specs.declared.scheme.Row.{Row}
use Rattle.symbolic_plans.specs.declared.scheme.Row.TheVariants.{Chl, Chr, Val, Gate, Guard, Let, Parl, Parr, Pass, Enstep, Disstep}
use Rattle.symbolic_plans.specs.declared.scheme.Row.TheVariants.{Disend, Distake, Call, Rel}
use Rattle.symbolic_plans.specs.Plans.{put_row}
use Rattle.node_steps.specs.Blanks.{HasValue}
use Rattle.node_steps.specs.Frames.{round_part, Makes}
use Rattle.symbolic_reach.specs.Parts.{OnPart}

module _ (program : Program) (executable : IsExecutable program.theory) where
  -- the part does something by the rest of the tree, and the whole what the rule makes of it
  pub parted : (row : Row) (b : Behaviour) (s : Assignment) (P : Assignment → Behaviour → Type 0) (d : Derivation) (a : Action) (c : Behaviour) →
      DerivesWith program s b (put_row row d) a c → OnPart program row s b P →
      (u : Assignment) × (q : Behaviour) × P u q × (e : Action) × (f : Behaviour) × DerivesWith program u q d e f ×
      Makes program s (round_part row b) e f a c
  parted Chl (choice left right) s P d a c k h = (s, left, h, a, c, k, (refl, refl))
  parted Chr (choice left right) s P d a c k h = (s, right, h, a, c, k, (refl, refl))
  parted (Val (Of v)) (value_choice x body) s P d a c k h =
      let read : term_spelled program.theory x.number v ≡ k.0 = values_are_read program.theory x.number v k.0 x.sort k.1 in (
        with_term x (term_spelled program.theory x.number v) s,
        body,
        h,
        a,
        c,
        subst (λ (n : TermTree). DerivesWith program (with_term x n s) body d a c) (sym read) k.2,
        (refl, refl),
      )
  parted (Val Mark) b s P d a c k h = absurd h
  parted (Val Blank) b s P d a c k h = absurd h
  parted (Gate j) (gate_choice g gates body) s P d a c k h =
      let same : k.1 ≡ h.1 = one_gate gates k.0 k.1 h.0 h.1 (sym k.2 ∙ h.2) k.3 h.3 in (
        s,
        relabel (record { from = g; to = h.1 } ∷ []) body,
        h.4,
        a,
        c,
        subst (λ (n : ℕ). DerivesWith program s (relabel (record { from = g; to = n } ∷ []) body) d a c) same k.4,
        (refl, refl),
      )
  parted Guard (guarded p body) s P d a c k h = (s, body, h, a, c, k.1, (refl, refl))
  parted Let (bound bindings body) s P d a c k h =
      let same : k.0 ≡ h.0 = one_binding program.theory executable s bindings s k.0 h.0 k.1 h.1 in
      (h.0, body, h.2, a, c, subst (λ (t : Assignment). DerivesWith program t body d a c) same k.2, (refl, refl))
  parted Parl (parallel gates left right) s P d a c k h = (s, left, h, a, k.0, k.1, (refl, k.3))
  parted Parr (parallel gates left right) s P d a c k h = (s, right, h, a, k.0, k.1, (refl, k.3))
  parted Pass (hide gates body) s P d a c k h = (s, body, h, a, k.0, k.1, (refl, k.3))
  parted Enstep (enable left xs right) s P d a c k h = (s, left, h, a, k.0, k.1, (refl, k.3))
  parted Disstep (disable left right) s P d a c k h = (s, left, h, a, k.0, k.1, (refl, k.3))
  parted Disend (disable left right) s P d a c k h = (s, left, h, a, c, k.0, (refl, refl))
  parted Distake (disable left right) s P d a c k h = (s, right, h, a, c, k, (refl, refl))
  parted Call (call p actual terms) s P d a c k h =
      let q = one_definition program p k.0 h.0 k.1 h.1 k.2 h.2 k.4 h.4 in
      let arguments = subst (λ (ys : List Variable). ArgumentsHave program.theory s variable ys terms k.3) q.1 k.5 in
      let same : k.3 ≡ h.3 = one_argument program.theory executable s h.1 terms variable k.3 h.3 arguments h.5 in
      let gates = subst (λ (formal : List ℕ). DerivesWith program k.3 (relabel (pairs_of formal actual) k.2) d a c) q.0 k.6 in
      let body = subst (λ (b : Behaviour). DerivesWith program k.3 (relabel (pairs_of h.0 actual) b) d a c) q.2 gates in (
        h.3,
        relabel (pairs_of h.0 actual) h.2,
        h.6,
        a,
        c,
        subst (λ (t : Assignment). DerivesWith program t (relabel (pairs_of h.0 actual) h.2) d a c) same body,
        (refl, refl),
      )
  parted Rel (relabel pairs body) s P d a c k h = (s, body, h, k.0, k.1, k.2, (k.3, k.4))
  parted _ _ s P d a c k h = absurd h

  -- where the rule gives something, the part is there
  pub part_there : (row : Row) (b : Behaviour) (s : Assignment) (d : Derivation) (a : Action) (c : Behaviour) →
      DerivesWith program s b (put_row row d) a c → OnPart program row s b (λ u q. Unit {0})
  part_there Chl (choice left right) s d a c k = tt
  part_there Chr (choice left right) s d a c k = tt
  part_there (Val (Of v)) (value_choice x body) s d a c k = tt
  part_there (Val (Of v)) _ s d a c k = absurd k
  part_there (Val Mark) b s d a c k = absurd k
  part_there (Val Blank) b s d a c k = absurd k
  part_there (Gate j) (gate_choice g gates body) s d a c k = (k.0, k.1, k.2, k.3, tt)
  part_there Guard (guarded p body) s d a c k = tt
  part_there Let (bound bindings body) s d a c k = (k.0, k.1, tt)
  part_there Parl (parallel gates left right) s d a c k = tt
  part_there Parr (parallel gates left right) s d a c k = tt
  part_there Pass (hide gates body) s d a c k = tt
  part_there Enstep (enable left xs right) s d a c k = tt
  part_there Disstep (disable left right) s d a c k = tt
  part_there Disend (disable left right) s d a c k = tt
  part_there Distake (disable left right) s d a c k = tt
  part_there Call (call p actual terms) s d a c k = (k.0, k.1, k.2, k.3, k.4, k.5, tt)
  part_there Rel (relabel pairs body) s d a c k = tt
  part_there _ _ s d a c k = absurd k

-- a choice of a value with a part has its value
pub has_value : (program : Program) (row : Row) (b : Behaviour) (s : Assignment) (P : Assignment → Behaviour → Type 0) →
    OnPart program row s b P → HasValue row
has_value program (Val (Of v)) b s P h = tt
has_value program (Val Mark) b s P h = h
has_value program (Val Blank) b s P h = h
has_value program _ b s P h = tt
