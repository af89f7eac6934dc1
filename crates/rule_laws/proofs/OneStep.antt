-- A tree determines what a behaviour does by it.
use Rattle.std.proofs.Common.{ℕ, suc, ◌≡◌, List, [], ◌∷◌, Option, Some, None, refl, sym, ap, subst, ◌∙◌, arith}
use Rattle.std.specs.List.{slice_get}
use Rattle.spec_core.specs.Terms.{TermTree, variable, instance, preorder}
use Rattle.spec_core.specs.Theories.{Premise, Theory}
use Rattle.spec_core.specs.Equality.{Equal, by_symmetry, by_transitivity}
use Rattle.spec_core.specs.Executable.{IsExecutable}
use Rattle.spec_core.specs.Values.{HasValue}
use Rattle.spec_core.specs.Code as code
use Rattle.spec_core.specs.Code.{Program, Variable, Binding, Relabelling, Synchronised, ExitValue, exit_given, exit_any}
use Rattle.spec_core.specs.Code.{ActionField, give, accept}
use Rattle.data_laws.proofs.Whole.{equality_is_of_values}
use Rattle.rule_model.specs.declared.action.Action.{Action}
use Rattle.rule_model.specs.declared.action.Action.TheVariants.{Inner, Exit}
use Rattle.rule_model.specs.declared.rules.Slot.{Slot}
use Rattle.rule_model.specs.declared.rules.Slot.TheVariants.{Of, Mark, Blank}
use Rattle.rule_model.specs.Actions.{doing, renamed_action, pairs_of}
use Rattle.rule_model.specs.Behaviours.{Behaviour, stop, exit, inner, action, choice, guarded, bound, value_choice, gate_choice, parallel}
use Rattle.rule_model.specs.Behaviours.{hide, enable, disable, call, relabel}
use Rattle.rule_model.specs.Code.{StandsAt, IsDefinition}
use Rattle.rule_model.specs.Derivations.{Derivation, pre, int, exiting, chl, chr, val, gate, guard, letting, parl, parr, both, hiding, pass}
use Rattle.rule_model.specs.Derivations.{enstep, enend, disstep, disend, distake, calling, rel}
use Rattle.rule_model.specs.Derives.{DerivesWith}
use Rattle.rule_model.specs.Fields.{Spells, GivesValue, FieldsHave, ExitHas, BindingsHave, ArgumentsHave, IsHandedOn, OnGate}
use Rattle.rule_model.specs.Substitution.{Assignment, with_term, without, put, tidied}
use Rattle.data_laws.proofs.Words.{one_term}

module _ (theory : Theory) (executable : IsExecutable theory) where
  -- a term has one value
  pub one_value : (t n m : TermTree) → HasValue theory t n → HasValue theory t m → n ≡ m
  one_value t n m h k =
      (equality_is_of_values theory executable t t n m h k).0 (by_transitivity n h.equal (by_symmetry h.equal))

  -- a list of operations spells one term of a sort
  pub one_spelled : (v : List ℕ) (n m : TermTree) (sort : ℕ) → Spells theory v n sort → Spells theory v m sort → n ≡ m
  one_spelled v n m sort h k = one_term theory n m sort sort h.of_sort k.of_sort (sym h.spelled ∙ k.spelled)

  one_given : (t : TermTree) (v w : List ℕ) (n m : TermTree) → GivesValue theory t v n → GivesValue theory t w m → v ≡ w
  one_given t v w n m h k = h.spelled ∙ ap preorder (one_value t n m h.value k.value) ∙ sym k.spelled

  pub one_filled : (s : Assignment) (fields : List ActionField) (slots : List Slot) (values others : List (List ℕ)) (t u r : Assignment) →
      FieldsHave theory s t fields slots values u → FieldsHave theory s t fields slots others r → (values ≡ others) × (u ≡ r)
  one_filled s [] [] [] [] t u r h k = (refl, h ∙ sym k)
  one_filled s (give e ∷ fields) slots (v ∷ values) (w ∷ others) t u r h k =
      let rest = one_filled s fields slots values others t u r h.1 k.1 in
      let first : v ≡ w = one_given (instance s e) v w h.0.0 k.0.0 h.0.1 k.0.1 in (
        ap (λ (x : List ℕ). x ∷ values) first ∙ ap (λ (l : List (List ℕ)). w ∷ l) rest.0,
        rest.1,
      )
  one_filled s (accept x ∷ fields) (Of o ∷ slots) (v ∷ values) (w ∷ others) t u r h k =
      let same : k.1 ≡ h.1 = one_spelled o k.1 h.1 x.sort k.2 h.2 in
      let again = subst (λ (n : TermTree). FieldsHave theory s (with_term x n t) fields slots others r) same k.3 in
      let rest = one_filled s fields slots values others (with_term x h.1 t) u r h.3 again in (
        ap (λ (y : List ℕ). y ∷ values) (sym h.0 ∙ k.0) ∙ ap (λ (l : List (List ℕ)). w ∷ l) rest.0,
        rest.1,
      )
  one_filled s [] [] [] (w ∷ others) t u r h k = absurd k
  one_filled s (give e ∷ fields) slots (v ∷ values) [] t u r h k = absurd k
  one_filled s (accept x ∷ fields) (Of o ∷ slots) (v ∷ values) [] t u r h k = absurd k
  one_filled s _ _ _ _ t u r h k = absurd h

  pub one_exit : (s : Assignment) (fields : List ExitValue) (slots : List Slot) (values others : List (List ℕ)) →
      ExitHas theory s fields slots values → ExitHas theory s fields slots others → values ≡ others
  one_exit s [] [] [] [] h k = refl
  one_exit s (exit_given e ∷ fields) slots (v ∷ values) (w ∷ others) h k =
      let first : v ≡ w = one_given (instance s e) v w h.0.0 k.0.0 h.0.1 k.0.1 in
      ap (λ (x : List ℕ). x ∷ values) first ∙ ap (λ (l : List (List ℕ)). w ∷ l) (one_exit s fields slots values others h.1 k.1)
  one_exit s (exit_any sort ∷ fields) (Of o ∷ slots) (v ∷ values) (w ∷ others) h k =
      ap (λ (x : List ℕ). x ∷ values) (sym h.0 ∙ k.0) ∙ ap (λ (l : List (List ℕ)). w ∷ l) (one_exit s fields slots values others h.2 k.2)
  one_exit s [] [] [] (w ∷ others) h k = absurd k
  one_exit s (exit_given e ∷ fields) slots (v ∷ values) [] h k = absurd k
  one_exit s (exit_any sort ∷ fields) (Of o ∷ slots) (v ∷ values) [] h k = absurd k
  one_exit s _ _ _ _ h k = absurd h

  pub one_binding : (s : Assignment) (bindings : List Binding) (t u r : Assignment) →
      BindingsHave theory s t bindings u → BindingsHave theory s t bindings r → u ≡ r
  one_binding s [] t u r h k = h ∙ sym k
  one_binding s (b ∷ bindings) t u r h k =
      let same : k.0 ≡ h.0 = one_value (instance s b.term) k.0 h.0 k.1 h.1 in
      one_binding s bindings (with_term b.variable h.0 t) u r h.2
      (subst (λ (n : TermTree). BindingsHave theory s (with_term b.variable n t) bindings r) same k.2)

  pub one_argument : (s : Assignment) (xs : List Variable) (terms : List TermTree) (t u r : Assignment) →
      ArgumentsHave theory s t xs terms u → ArgumentsHave theory s t xs terms r → u ≡ r
  one_argument s [] [] t u r h k = h ∙ sym k
  one_argument s (x ∷ xs) (e ∷ terms) t u r h k =
      let same : k.0 ≡ h.0 = one_value (instance s e) k.0 h.0 k.1 h.1 in
      one_argument s xs terms (with_term x h.0 t) u r h.2
      (subst (λ (n : TermTree). ArgumentsHave theory s (with_term x n t) xs terms r) same k.2)
  one_argument s _ _ t u r h k = absurd h

  pub one_handed : (xs : List Variable) (values : List (List ℕ)) (t u r : Assignment) →
      IsHandedOn theory t xs values u → IsHandedOn theory t xs values r → u ≡ r
  one_handed [] [] t u r h k = h ∙ sym k
  one_handed (x ∷ xs) (v ∷ values) t u r h k =
      let same : k.0 ≡ h.0 = one_spelled v k.0 h.0 x.sort k.1 h.1 in
      one_handed xs values (with_term x h.0 t) u r h.2
      (subst (λ (n : TermTree). IsHandedOn theory (with_term x n t) xs values r) same k.2)
  one_handed _ _ t u r h k = absurd h

-- the kind of a construct, as a number
abbrev tag_of : Behaviour → ℕ
tag_of stop = 0
tag_of (exit fields) = 1
tag_of (inner b) = 2
tag_of (action g fields p b) = 3
tag_of (choice b c) = 4
tag_of (guarded p b) = 5
tag_of (bound bindings b) = 6
tag_of (value_choice x b) = 7
tag_of (gate_choice g gates b) = 8
tag_of (parallel gates b c) = 9
tag_of (hide gates b) = 10
tag_of (enable b xs c) = 11
tag_of (disable b c) = 12
tag_of (call p gates terms) = 13
tag_of (relabel pairs b) = 14

abbrev node_tag : code.Node → ℕ
node_tag code.stop = 0
node_tag (code.exit fields) = 1
node_tag (code.inner i) = 2
node_tag (code.action g fields p i) = 3
node_tag (code.choice i j) = 4
node_tag (code.guarded p i) = 5
node_tag (code.bound bindings i) = 6
node_tag (code.value_choice x i) = 7
node_tag (code.gate_choice g gates i) = 8
node_tag (code.parallel gates i j) = 9
node_tag (code.hide gates i) = 10
node_tag (code.enable i xs j) = 11
node_tag (code.disable i j) = 12
node_tag (code.call p gates terms) = 13
node_tag (code.relabel pairs i) = 14
node_tag (code.process gates xs i) = 15

abbrev place_tag : Option code.Node → ℕ
place_tag None = 16
place_tag (Some node) = node_tag node

tag_at : (program : Program) (n : ℕ) (b : Behaviour) → StandsAt program n b → place_tag (slice_get program.code n) ≡ tag_of b
tag_at program n stop h = ap place_tag h
tag_at program n (exit fields) h = ap place_tag h
tag_at program n (inner b) h = ap place_tag h.1
tag_at program n (action g fields p b) h = ap place_tag h.1
tag_at program n (choice b c) h = ap place_tag h.2
tag_at program n (guarded p b) h = ap place_tag h.1
tag_at program n (bound bindings b) h = ap place_tag h.1
tag_at program n (value_choice x b) h = ap place_tag h.1
tag_at program n (gate_choice g gates b) h = ap place_tag h.1
tag_at program n (parallel gates b c) h = ap place_tag h.2
tag_at program n (hide gates b) h = ap place_tag h.1
tag_at program n (enable b xs c) h = ap place_tag h.2
tag_at program n (disable b c) h = ap place_tag h.2
tag_at program n (call p gates terms) h = ap place_tag h
tag_at program n (relabel pairs b) h = ap place_tag h.1

-- equal constructs have equal parts
exit_parts : (u0 v0 : List ExitValue) →
    ◌≡◌ {A = Option code.Node} (Some (code.exit u0)) (Some (code.exit v0)) → u0 ≡ v0
exit_parts u0 v0 e = cc

inner_parts : (u0 v0 : ℕ) →
    ◌≡◌ {A = Option code.Node} (Some (code.inner u0)) (Some (code.inner v0)) → u0 ≡ v0
inner_parts u0 v0 e = cc

action_parts : (u0 v0 : ℕ) (u1 v1 : List ActionField) (u2 v2 : Option Premise) (u3 v3 : ℕ) →
    ◌≡◌ {A = Option code.Node} (Some (code.action u0 u1 u2 u3)) (Some (code.action v0 v1 v2 v3)) →
    (u0 ≡ v0) × (u1 ≡ v1) × (u2 ≡ v2) × (u3 ≡ v3)
action_parts u0 v0 u1 v1 u2 v2 u3 v3 e = (cc, cc, cc, cc)

choice_parts : (u0 v0 : ℕ) (u1 v1 : ℕ) →
    ◌≡◌ {A = Option code.Node} (Some (code.choice u0 u1)) (Some (code.choice v0 v1)) → (u0 ≡ v0) × (u1 ≡ v1)
choice_parts u0 v0 u1 v1 e = (cc, cc)

guarded_parts : (u0 v0 : Premise) (u1 v1 : ℕ) →
    ◌≡◌ {A = Option code.Node} (Some (code.guarded u0 u1)) (Some (code.guarded v0 v1)) → (u0 ≡ v0) × (u1 ≡ v1)
guarded_parts u0 v0 u1 v1 e = (cc, cc)

bound_parts : (u0 v0 : List Binding) (u1 v1 : ℕ) →
    ◌≡◌ {A = Option code.Node} (Some (code.bound u0 u1)) (Some (code.bound v0 v1)) → (u0 ≡ v0) × (u1 ≡ v1)
bound_parts u0 v0 u1 v1 e = (cc, cc)

value_choice_parts : (u0 v0 : Variable) (u1 v1 : ℕ) →
    ◌≡◌ {A = Option code.Node} (Some (code.value_choice u0 u1)) (Some (code.value_choice v0 v1)) → (u0 ≡ v0) × (u1 ≡ v1)
value_choice_parts u0 v0 u1 v1 e = (cc, cc)

gate_choice_parts : (u0 v0 : ℕ) (u1 v1 : List ℕ) (u2 v2 : ℕ) →
    ◌≡◌ {A = Option code.Node} (Some (code.gate_choice u0 u1 u2)) (Some (code.gate_choice v0 v1 v2)) → (u0 ≡ v0) × (u1 ≡ v1) × (u2 ≡ v2)
gate_choice_parts u0 v0 u1 v1 u2 v2 e = (cc, cc, cc)

parallel_parts : (u0 v0 : Synchronised) (u1 v1 : ℕ) (u2 v2 : ℕ) →
    ◌≡◌ {A = Option code.Node} (Some (code.parallel u0 u1 u2)) (Some (code.parallel v0 v1 v2)) → (u0 ≡ v0) × (u1 ≡ v1) × (u2 ≡ v2)
parallel_parts u0 v0 u1 v1 u2 v2 e = (cc, cc, cc)

hide_parts : (u0 v0 : List ℕ) (u1 v1 : ℕ) →
    ◌≡◌ {A = Option code.Node} (Some (code.hide u0 u1)) (Some (code.hide v0 v1)) → (u0 ≡ v0) × (u1 ≡ v1)
hide_parts u0 v0 u1 v1 e = (cc, cc)

enable_parts : (u0 v0 : ℕ) (u1 v1 : List Variable) (u2 v2 : ℕ) →
    ◌≡◌ {A = Option code.Node} (Some (code.enable u0 u1 u2)) (Some (code.enable v0 v1 v2)) → (u0 ≡ v0) × (u1 ≡ v1) × (u2 ≡ v2)
enable_parts u0 v0 u1 v1 u2 v2 e = (cc, cc, cc)

disable_parts : (u0 v0 : ℕ) (u1 v1 : ℕ) →
    ◌≡◌ {A = Option code.Node} (Some (code.disable u0 u1)) (Some (code.disable v0 v1)) → (u0 ≡ v0) × (u1 ≡ v1)
disable_parts u0 v0 u1 v1 e = (cc, cc)

call_parts : (u0 v0 : ℕ) (u1 v1 : List ℕ) (u2 v2 : List TermTree) →
    ◌≡◌ {A = Option code.Node} (Some (code.call u0 u1 u2)) (Some (code.call v0 v1 v2)) → (u0 ≡ v0) × (u1 ≡ v1) × (u2 ≡ v2)
call_parts u0 v0 u1 v1 u2 v2 e = (cc, cc, cc)

relabel_parts : (u0 v0 : List Relabelling) (u1 v1 : ℕ) →
    ◌≡◌ {A = Option code.Node} (Some (code.relabel u0 u1)) (Some (code.relabel v0 v1)) → (u0 ≡ v0) × (u1 ≡ v1)
relabel_parts u0 v0 u1 v1 e = (cc, cc)

-- one behaviour stands at a number
pub one_behaviour : (program : Program) (n : ℕ) (b c : Behaviour) → StandsAt program n b → StandsAt program n c → b ≡ c
one_behaviour program n stop stop h k = refl
one_behaviour program n (exit u0) (exit v0) h k =
    let q = exit_parts u0 v0 (sym h ∙ k) in
    ap (λ (x : List ExitValue). exit x) q
one_behaviour program n (inner u0) (inner v0) h k =
    let q = inner_parts h.0 k.0 (sym h.1 ∙ k.1) in
    let e0 = one_behaviour program h.0 u0 v0 h.2 (subst (λ (i : ℕ). StandsAt program i v0) (sym q) k.2) in
    ap (λ (x : Behaviour). inner x) e0
one_behaviour program n (action u0 u1 u2 u3) (action v0 v1 v2 v3) h k =
    let q = action_parts u0 v0 u1 v1 u2 v2 h.0 k.0 (sym h.1 ∙ k.1) in
    let e3 = one_behaviour program h.0 u3 v3 h.2 (subst (λ (i : ℕ). StandsAt program i v3) (sym q.3) k.2) in
    ap (λ (x : ℕ). action x u1 u2 u3) q.0
    ∙ ap (λ (x : List ActionField). action v0 x u2 u3) q.1
    ∙ ap (λ (x : Option Premise). action v0 v1 x u3) q.2
    ∙ ap (λ (x : Behaviour). action v0 v1 v2 x) e3
one_behaviour program n (choice u0 u1) (choice v0 v1) h k =
    let q = choice_parts h.0 k.0 h.1 k.1 (sym h.2 ∙ k.2) in
    let e0 = one_behaviour program h.0 u0 v0 h.3 (subst (λ (i : ℕ). StandsAt program i v0) (sym q.0) k.3) in
    let e1 = one_behaviour program h.1 u1 v1 h.4 (subst (λ (i : ℕ). StandsAt program i v1) (sym q.1) k.4) in
    ap (λ (x : Behaviour). choice x u1) e0
    ∙ ap (λ (x : Behaviour). choice v0 x) e1
one_behaviour program n (guarded u0 u1) (guarded v0 v1) h k =
    let q = guarded_parts u0 v0 h.0 k.0 (sym h.1 ∙ k.1) in
    let e1 = one_behaviour program h.0 u1 v1 h.2 (subst (λ (i : ℕ). StandsAt program i v1) (sym q.1) k.2) in
    ap (λ (x : Premise). guarded x u1) q.0
    ∙ ap (λ (x : Behaviour). guarded v0 x) e1
one_behaviour program n (bound u0 u1) (bound v0 v1) h k =
    let q = bound_parts u0 v0 h.0 k.0 (sym h.1 ∙ k.1) in
    let e1 = one_behaviour program h.0 u1 v1 h.2 (subst (λ (i : ℕ). StandsAt program i v1) (sym q.1) k.2) in
    ap (λ (x : List Binding). bound x u1) q.0
    ∙ ap (λ (x : Behaviour). bound v0 x) e1
one_behaviour program n (value_choice u0 u1) (value_choice v0 v1) h k =
    let q = value_choice_parts u0 v0 h.0 k.0 (sym h.1 ∙ k.1) in
    let e1 = one_behaviour program h.0 u1 v1 h.2 (subst (λ (i : ℕ). StandsAt program i v1) (sym q.1) k.2) in
    ap (λ (x : Variable). value_choice x u1) q.0
    ∙ ap (λ (x : Behaviour). value_choice v0 x) e1
one_behaviour program n (gate_choice u0 u1 u2) (gate_choice v0 v1 v2) h k =
    let q = gate_choice_parts u0 v0 u1 v1 h.0 k.0 (sym h.1 ∙ k.1) in
    let e2 = one_behaviour program h.0 u2 v2 h.2 (subst (λ (i : ℕ). StandsAt program i v2) (sym q.2) k.2) in
    ap (λ (x : ℕ). gate_choice x u1 u2) q.0
    ∙ ap (λ (x : List ℕ). gate_choice v0 x u2) q.1
    ∙ ap (λ (x : Behaviour). gate_choice v0 v1 x) e2
one_behaviour program n (parallel u0 u1 u2) (parallel v0 v1 v2) h k =
    let q = parallel_parts u0 v0 h.0 k.0 h.1 k.1 (sym h.2 ∙ k.2) in
    let e1 = one_behaviour program h.0 u1 v1 h.3 (subst (λ (i : ℕ). StandsAt program i v1) (sym q.1) k.3) in
    let e2 = one_behaviour program h.1 u2 v2 h.4 (subst (λ (i : ℕ). StandsAt program i v2) (sym q.2) k.4) in
    ap (λ (x : Synchronised). parallel x u1 u2) q.0
    ∙ ap (λ (x : Behaviour). parallel v0 x u2) e1
    ∙ ap (λ (x : Behaviour). parallel v0 v1 x) e2
one_behaviour program n (hide u0 u1) (hide v0 v1) h k =
    let q = hide_parts u0 v0 h.0 k.0 (sym h.1 ∙ k.1) in
    let e1 = one_behaviour program h.0 u1 v1 h.2 (subst (λ (i : ℕ). StandsAt program i v1) (sym q.1) k.2) in
    ap (λ (x : List ℕ). hide x u1) q.0
    ∙ ap (λ (x : Behaviour). hide v0 x) e1
one_behaviour program n (enable u0 u1 u2) (enable v0 v1 v2) h k =
    let q = enable_parts h.0 k.0 u1 v1 h.1 k.1 (sym h.2 ∙ k.2) in
    let e0 = one_behaviour program h.0 u0 v0 h.3 (subst (λ (i : ℕ). StandsAt program i v0) (sym q.0) k.3) in
    let e2 = one_behaviour program h.1 u2 v2 h.4 (subst (λ (i : ℕ). StandsAt program i v2) (sym q.2) k.4) in
    ap (λ (x : Behaviour). enable x u1 u2) e0
    ∙ ap (λ (x : List Variable). enable v0 x u2) q.1
    ∙ ap (λ (x : Behaviour). enable v0 v1 x) e2
one_behaviour program n (disable u0 u1) (disable v0 v1) h k =
    let q = disable_parts h.0 k.0 h.1 k.1 (sym h.2 ∙ k.2) in
    let e0 = one_behaviour program h.0 u0 v0 h.3 (subst (λ (i : ℕ). StandsAt program i v0) (sym q.0) k.3) in
    let e1 = one_behaviour program h.1 u1 v1 h.4 (subst (λ (i : ℕ). StandsAt program i v1) (sym q.1) k.4) in
    ap (λ (x : Behaviour). disable x u1) e0
    ∙ ap (λ (x : Behaviour). disable v0 x) e1
one_behaviour program n (call u0 u1 u2) (call v0 v1 v2) h k =
    let q = call_parts u0 v0 u1 v1 u2 v2 (sym h ∙ k) in
    ap (λ (x : ℕ). call x u1 u2) q.0
    ∙ ap (λ (x : List ℕ). call v0 x u2) q.1
    ∙ ap (λ (x : List TermTree). call v0 v1 x) q.2
one_behaviour program n (relabel u0 u1) (relabel v0 v1) h k =
    let q = relabel_parts u0 v0 h.0 k.0 (sym h.1 ∙ k.1) in
    let e1 = one_behaviour program h.0 u1 v1 h.2 (subst (λ (i : ℕ). StandsAt program i v1) (sym q.1) k.2) in
    ap (λ (x : List Relabelling). relabel x u1) q.0
    ∙ ap (λ (x : Behaviour). relabel v0 x) e1
one_behaviour program n b c h k = absurd (omega (arith, sym (tag_at program n b h) ∙ tag_at program n c k))

-- one definition of a process
pub one_definition : (program : Program) (p : ℕ) (gates others : List ℕ) (xs ys : List Variable) (body other : Behaviour) →
    IsDefinition program p gates xs body → IsDefinition program p others ys other → (gates ≡ others) × (xs ≡ ys) × (body ≡ other)
one_definition program p gates others xs ys body other h k =
    let q = process_parts gates others xs ys h.part k.part (sym h.defines ∙ k.defines) in (
      q.0,
      q.1,
      one_behaviour program h.part body other h.stands (subst (λ (i : ℕ). StandsAt program i other) (sym q.2) k.stands),
    )
  where
    process_parts : (gates others : List ℕ) (xs ys : List Variable) (i j : ℕ) →
        ◌≡◌ {A = Option code.Node} (Some (code.process gates xs i)) (Some (code.process others ys j)) →
        (gates ≡ others) × (xs ≡ ys) × (i ≡ j)
    process_parts gates others xs ys i j e = (cc, cc, cc)

-- one gate at a place
pub one_gate : (gates : List ℕ) (i h j k : ℕ) → suc i ≡ suc j → slice_get gates i ≡ Some h → slice_get gates j ≡ Some k → h ≡ k
one_gate gates i h j k same a b =
    let e : i ≡ j = cc in some_one h k (sym a ∙ ap (slice_get gates) e ∙ b)
  where
    some_one : (h k : ℕ) → ◌≡◌ {A = Option ℕ} (Some h) (Some k) → h ≡ k
    some_one h k e = cc

exits_one : (values others : List (List ℕ)) → ◌≡◌ {A = Action} (Exit values) (Exit others) → values ≡ others
exits_one values others e = cc

module _ (program : Program) (executable : IsExecutable program.theory) where
  abbrev Same : Action → Action → Behaviour → Behaviour → Type 0
  Same a x c y = (a ≡ x) × (c ≡ y)

  pub one_step : (d : Derivation) (b : Behaviour) (s : Assignment) (a x : Action) (c y : Behaviour) →
      DerivesWith program s b d a c → DerivesWith program s b d x y → Same a x c y
  one_step (pre slots) (action g fields p rest) s a x c y h k =
      let q = one_filled program.theory executable s fields slots h.0 k.0 s h.1 k.1 h.3 k.3 in (
        h.2 ∙ ap (doing g) q.0 ∙ sym k.2,
        h.5 ∙ ap (λ (t : Assignment). put t rest) q.1 ∙ sym k.5,
      )
  one_step int (inner rest) s a x c y h k = (h.0 ∙ sym k.0, h.1 ∙ sym k.1)
  one_step (exiting slots) (exit fields) s a x c y h k = (
    h.1 ∙ ap Exit (one_exit program.theory executable s fields slots h.0 k.0 h.2 k.2) ∙ sym k.1,
    h.3 ∙ sym k.3,
  )
  one_step (chl d) (choice left right) s a x c y h k = one_step d left s a x c y h k
  one_step (chr d) (choice left right) s a x c y h k = one_step d right s a x c y h k
  one_step (val (Of v) d) (value_choice z body) s a x c y h k =
      let same : k.0 ≡ h.0 = one_spelled program.theory executable v k.0 h.0 z.sort k.1 h.1 in
      one_step d body (with_term z h.0 s) a x c y h.2
      (subst (λ (n : TermTree). DerivesWith program (with_term z n s) body d x y) same k.2)
  one_step (val (Of v) d) _ s a x c y h k = absurd h
  one_step (val Mark d) b s a x c y h k = absurd h
  one_step (val Blank d) b s a x c y h k = absurd h
  one_step (gate j d) (gate_choice g gates body) s a x c y h k =
      let same : k.1 ≡ h.1 = one_gate gates k.0 k.1 h.0 h.1 (sym k.2 ∙ h.2) k.3 h.3 in
      one_step d (relabel (record { from = g; to = h.1 } ∷ []) body) s a x c y h.4
      (subst (λ (n : ℕ). DerivesWith program s (relabel (record { from = g; to = n } ∷ []) body) d x y) same k.4)
  one_step (guard d) (guarded p body) s a x c y h k = one_step d body s a x c y h.1 k.1
  one_step (letting d) (bound bindings body) s a x c y h k =
      let same : k.0 ≡ h.0 = one_binding program.theory executable s bindings s k.0 h.0 k.1 h.1 in
      one_step d body h.0 a x c y h.2 (subst (λ (t : Assignment). DerivesWith program t body d x y) same k.2)
  one_step (parl d) (parallel gates left right) s a x c y h k =
      let q = one_step d left s a x h.0 k.0 h.1 k.1 in
      (q.0, h.3 ∙ ap (λ (e : Behaviour). parallel gates e (put s right)) q.1 ∙ sym k.3)
  one_step (parr d) (parallel gates left right) s a x c y h k =
      let q = one_step d right s a x h.0 k.0 h.1 k.1 in (q.0, h.3 ∙ ap (parallel gates (put s left)) q.1 ∙ sym k.3)
  one_step (both d e) (parallel gates left right) s a x c y h k =
      let q = one_step d left s a x h.0 k.0 h.2 k.2 in
      let r = one_step e right s a x h.1 k.1 h.3 k.3 in
      (q.0, h.5 ∙ ap (λ (b : Behaviour). parallel gates b h.1) q.1 ∙ ap (parallel gates k.0) r.1 ∙ sym k.5)
  one_step (hiding d) (hide gates body) s a x c y h k =
      let q = one_step d body s (doing h.0 h.1) (doing k.0 k.1) h.2 k.2 h.3 k.3 in
      (h.5 ∙ sym k.5, h.6 ∙ ap (hide gates) q.1 ∙ sym k.6)
  one_step (pass d) (hide gates body) s a x c y h k =
      let q = one_step d body s a x h.0 k.0 h.1 k.1 in (q.0, h.3 ∙ ap (hide gates) q.1 ∙ sym k.3)
  one_step (enstep d) (enable left xs right) s a x c y h k =
      let q = one_step d left s a x h.0 k.0 h.1 k.1 in
      (q.0, h.3 ∙ ap (λ (e : Behaviour). enable e xs (put (without xs s) right)) q.1 ∙ sym k.3)
  one_step (enend d) (enable left xs right) s a x c y h k =
      let q = one_step d left s (Exit h.0) (Exit k.0) h.1 k.1 h.3 k.3 in
      let same : k.0 ≡ h.0 = exits_one k.0 h.0 (sym q.0) in
      let again = subst (λ (values : List (List ℕ)). IsHandedOn program.theory s xs values k.2) same k.5 in
      let assigned = one_handed program.theory executable xs h.0 s h.2 k.2 h.5 again in
      (h.4 ∙ sym k.4, h.6 ∙ ap (λ (t : Assignment). put t right) assigned ∙ sym k.6)
  one_step (disstep d) (disable left right) s a x c y h k =
      let q = one_step d left s a x h.0 k.0 h.1 k.1 in (q.0, h.3 ∙ ap (λ (e : Behaviour). disable e (put s right)) q.1 ∙ sym k.3)
  one_step (disend d) (disable left right) s a x c y h k = one_step d left s a x c y h.0 k.0
  one_step (distake d) (disable left right) s a x c y h k = one_step d right s a x c y h k
  one_step (calling d) (call p actual terms) s a x c y h k =
      let q = one_definition program p k.0 h.0 k.1 h.1 k.2 h.2 k.4 h.4 in
      let arguments = subst (λ (ys : List Variable). ArgumentsHave program.theory s variable ys terms k.3) q.1 k.5 in
      let same : k.3 ≡ h.3 = one_argument program.theory executable s h.1 terms variable k.3 h.3 arguments h.5 in
      let gates = subst (λ (formal : List ℕ). DerivesWith program k.3 (relabel (pairs_of formal actual) k.2) d x y) q.0 k.6 in
      let body = subst (λ (b : Behaviour). DerivesWith program k.3 (relabel (pairs_of h.0 actual) b) d x y) q.2 gates in
      one_step d (relabel (pairs_of h.0 actual) h.2) h.3 a x c y h.6
      (subst (λ (t : Assignment). DerivesWith program t (relabel (pairs_of h.0 actual) h.2) d x y) same body)
  one_step (rel d) (relabel pairs body) s a x c y h k =
      let q = one_step d body s h.0 k.0 h.1 k.1 h.2 k.2 in
      (h.3 ∙ ap (renamed_action pairs) q.0 ∙ sym k.3, h.4 ∙ ap (tidied pairs) q.1 ∙ sym k.4)
  one_step _ _ s a x c y h k = absurd h
