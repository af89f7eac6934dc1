-- What a behaviour does with terms for its variables, it does after some of them are put in.
use Rattle.std.proofs.Common.{ℕ, ◌≡◌, ◌==◌, ◌⊎◌, inl, inr, List, [], ◌∷◌, map, refl, sym, ap, subst, ◌∙◌, Bool, true, false}
use Rattle.std.proofs.Common.{if◌then◌else◌, Option, Some, None}
use Rattle.std.proofs.lemmas.Bool.{eq-eqb}
use Rattle.spec_core.specs.Terms.{TermTree, variable, instance, IsGround}
use Rattle.spec_core.specs.Theories.{Theory, Premise, premise}
use Rattle.spec_core.specs.Equality.{Equal}
use Rattle.spec_core.specs.Values.{HasValue}
use Rattle.spec_core.specs.Code.{Program, Variable, Binding, ExitValue, exit_given, exit_any, ActionField, give, accept}
use Rattle.spec_core.specs.Functionality.{accepted, bound_variables}
use Rattle.rule_model.specs.declared.action.Action.{Action}
use Rattle.rule_model.specs.declared.action.Action.TheVariants.{Exit}
use Rattle.rule_model.specs.declared.rules.Slot.{Slot}
use Rattle.rule_model.specs.declared.rules.Slot.TheVariants.{Of}
use Rattle.rule_model.specs.Behaviours.{Behaviour, exit, inner, action, choice, guarded, bound, value_choice, gate_choice, parallel, hide}
use Rattle.rule_model.specs.Behaviours.{enable, disable, call, relabel}
use Rattle.rule_model.specs.Derivations.{Derivation, pre, int, exiting, chl, chr, val, gate, guard, letting, parl, parr, both, hiding}
use Rattle.rule_model.specs.Derivations.{pass, enstep, enend, disstep, disend, distake, calling, rel}
use Rattle.rule_model.specs.Substitution.{Assignment, with_term, without, put_in_premise, put_in_guard, put_in_field, put_in_exit}
use Rattle.rule_model.specs.Substitution.{put_in_binding, put}
use Rattle.rule_model.specs.Derives.{DerivesWith}
use Rattle.rule_model.specs.Fields.{GivesValue, PremiseHolds, GuardHolds, FieldsHave, ExitHas, BindingsHave, ArgumentsHave, IsHandedOn}
use Rattle.rule_model.specs.Actions.{doing}
use Rattle.rule_laws.specs.Closing.{IsClosing, IsAfter}
use Rattle.rule_laws.proofs.Putting.{instance_twice, closing_one, closing_many, after_ground, after_variable, after_many, twice}

-- one more variable with a term
with_own : (x : Variable) (n : TermTree) (s : Assignment) (b : Bool) → b ≡ true → (if b then n else s x.number) ≡ n
with_own x n s true e = refl
with_own x n s false e = cc

with_other : (n : TermTree) (s : Assignment) (y : ℕ) (b : Bool) → b ≡ false → (if b then n else s y) ≡ s y
with_other n s y true e = cc
with_other n s y false e = refl

pub after_bound : (r s t : Assignment) (x : Variable) (n : TermTree) → IsClosing s → IsAfter r s t →
    IsAfter (with_term x n r) (with_term x (variable x.number) s) (with_term x n t)
after_bound r s t x n closing after y = by_test (y == x.number) refl (closing y)
  where
    by_test : (b : Bool) → y == x.number ≡ b → IsGround (s y) ⊎ (s y ≡ variable y) →
        instance (with_term x n r) (if b then variable x.number else s y) ≡ (if b then n else t y)
    by_test true e c = with_own x n r (x.number == x.number) (eq-eqb x.number x.number refl)
    by_test false e (inl g) = after_ground r (with_term x n r) (s y) (t y) g (after y)
    by_test false e (inr i) = after_variable r (with_term x n r) (s y) (t y) y i (with_other n r y (y == x.number) e) (after y)

module _ (theory : Theory) (r s t : Assignment) (after : IsAfter r s t) where
  value_put : (e : TermTree) (n : TermTree) → HasValue theory (instance t e) n → HasValue theory (instance r (instance s e)) n
  value_put e n h = subst (λ u. HasValue theory u n) (sym (instance_twice r s t after e)) h

  gives_put : (e : TermTree) (v : List ℕ) (n : TermTree) → GivesValue theory (instance t e) v n →
      GivesValue theory (instance r (instance s e)) v n
  gives_put e v n h = subst (λ u. GivesValue theory u v n) (sym (instance_twice r s t after e)) h

  premise_put : (p : Premise) → PremiseHolds theory t p → PremiseHolds theory r (put_in_premise s p)
  premise_put (premise a b) h =
      subst (λ u. Equal theory u (instance r (instance s b))) (sym (instance_twice r s t after a))
      (subst (λ u. Equal theory (instance t a) u) (sym (instance_twice r s t after b)) h)

  guard_put : (p : Option Premise) → GuardHolds theory t p → GuardHolds theory r (put_in_guard s p)
  guard_put None h = tt
  guard_put (Some p) h = premise_put p h

  exit_put : (fields : List ExitValue) (slots : List Slot) (values : List (List ℕ)) → ExitHas theory t fields slots values →
      ExitHas theory r (map (put_in_exit s) fields) slots values
  exit_put [] [] [] h = tt
  exit_put (exit_given e ∷ fields) slots (v ∷ values) h = ((h.0.0, gives_put e v h.0.0 h.0.1), exit_put fields slots values h.1)
  exit_put (exit_any sort ∷ fields) (Of w ∷ slots) (v ∷ values) h = (h.0, h.1, exit_put fields slots values h.2)
  exit_put _ _ _ h = absurd h

  fields_put : (fields : List ActionField) (slots : List Slot) (values : List (List ℕ)) (i j k u : Assignment) → IsClosing j →
      IsAfter i j k → FieldsHave theory t k fields slots values u
      → (q : Assignment) × FieldsHave theory r i (map (put_in_field s) fields) slots values q × IsAfter q (without (accepted fields) j) u
  fields_put [] [] [] i j k u c a h = (i, refl, subst (IsAfter i j) (sym h) a)
  fields_put (give e ∷ fields) slots (v ∷ values) i j k u c a h =
      let z = fields_put fields slots values i j k u c a h.1 in
      (z.0, ((h.0.0, gives_put e v h.0.0 h.0.1), z.1), z.2)
  fields_put (accept x ∷ fields) (Of w ∷ slots) (v ∷ values) i j k u c a h =
      let z = fields_put fields slots values (with_term x h.1 i) (with_term x (variable x.number) j) (with_term x h.1 k) u
      (closing_one j x c) (after_bound i j k x h.1 c a) h.3 in
      (z.0, (h.0, h.1, h.2, z.1), z.2)
  fields_put _ _ _ i j k u c a h = absurd h

  bindings_put : (bindings : List Binding) (i j k u : Assignment) → IsClosing j → IsAfter i j k → BindingsHave theory t k bindings u
      → (q : Assignment) × BindingsHave theory r i (map (put_in_binding s) bindings) q ×
      IsAfter q (without (bound_variables bindings) j) u
  bindings_put [] i j k u c a h = (i, refl, subst (IsAfter i j) (sym h) a)
  bindings_put (b ∷ bindings) i j k u c a h =
      let x = b.variable in
      let z = bindings_put bindings (with_term x h.0 i) (with_term x (variable x.number) j) (with_term x h.0 k) u (closing_one j x c)
      (after_bound i j k x h.0 c a) h.2 in
      (z.0, (h.0, value_put b.term h.0 h.1, z.1), z.2)

  arguments_put : (xs : List Variable) (terms : List TermTree) (k u : Assignment) → ArgumentsHave theory t k xs terms u →
      ArgumentsHave theory r k xs (map (instance s) terms) u
  arguments_put [] [] k u h = h
  arguments_put (x ∷ xs) (e ∷ terms) k u h = (h.0, value_put e h.0 h.1, arguments_put xs terms (with_term x h.0 k) u h.2)
  arguments_put _ _ k u h = absurd h

handed_put : (theory : Theory) (xs : List Variable) (values : List (List ℕ)) (i j k u : Assignment) → IsClosing j → IsAfter i j k →
    IsHandedOn theory k xs values u
    → (q : Assignment) × IsHandedOn theory i xs values q × IsAfter q (without xs j) u
handed_put theory [] [] i j k u c a h = (i, refl, subst (IsAfter i j) (sym h) a)
handed_put theory (x ∷ xs) (v ∷ values) i j k u c a h =
    let z = handed_put theory xs values (with_term x h.0 i) (with_term x (variable x.number) j) (with_term x h.0 k) u (closing_one j x c)
    (after_bound i j k x h.0 c a) h.2 in
    (z.0, (h.0, h.1, z.1), z.2)
handed_put theory _ _ i j k u c a h = absurd h

module _ (program : Program) where
  pub carry : (d : Derivation) (b : Behaviour) (r s t : Assignment) (a : Action) (c : Behaviour) → IsClosing s → IsAfter r s t →
      DerivesWith program t b d a c → DerivesWith program r (put s b) d a c
  carry (pre slots) (action g fields p rest) r s t a c cl af h =
      let z = fields_put program.theory r s t af fields slots h.0 r s t h.1 cl af h.3 in
      let xs = accepted fields in (
        h.0,
        z.0,
        h.2,
        z.1,
        guard_put program.theory z.0 (without xs s) h.1 z.2 p h.4,
        h.5
            ∙ sym (twice rest z.0 (without xs s) h.1 (closing_many xs s cl) z.2),
      )
  carry int (inner rest) r s t a c cl af h = (h.0, h.1 ∙ sym (twice rest r s t cl af))
  carry (exiting slots) (exit fields) r s t a c cl af h = (h.0, h.1, exit_put program.theory r s t af fields slots h.0 h.2, h.3)
  carry (chl d) (choice x y) r s t a c cl af h = carry d x r s t a c cl af h
  carry (chr d) (choice x y) r s t a c cl af h = carry d y r s t a c cl af h
  carry (val (Of v) d) (value_choice x body) r s t a c cl af h = (
    h.0,
    h.1,
    carry d body (with_term x h.0 r) (with_term x (variable x.number) s) (with_term x h.0 t) a c (closing_one s x cl)
        (after_bound r s t x h.0 cl af) h.2,
  )
  carry (gate n d) (gate_choice g gates body) r s t a c cl af h =
      (h.0, h.1, h.2, h.3, carry d (relabel (record { from = g; to = h.1 } ∷ []) body) r s t a c cl af h.4)
  carry (guard d) (guarded p body) r s t a c cl af h = (premise_put program.theory r s t af p h.0, carry d body r s t a c cl af h.1)
  carry (letting d) (bound bindings body) r s t a c cl af h =
      let z = bindings_put program.theory r s t af bindings r s t h.0 cl af h.1 in
      let xs = bound_variables bindings in
      (z.0, z.1, carry d body z.0 (without xs s) h.0 a c (closing_many xs s cl) z.2 h.2)
  carry (parl d) (parallel gates x y) r s t a c cl af h =
      (h.0, carry d x r s t a h.0 cl af h.1, h.2, h.3 ∙ ap (parallel gates h.0) (sym (twice y r s t cl af)))
  carry (parr d) (parallel gates x y) r s t a c cl af h =
      (h.0, carry d y r s t a h.0 cl af h.1, h.2, h.3 ∙ ap (λ z. parallel gates z h.0) (sym (twice x r s t cl af)))
  carry (both d e) (parallel gates x y) r s t a c cl af h =
      (h.0, h.1, carry d x r s t a h.0 cl af h.2, carry e y r s t a h.1 cl af h.3, h.4, h.5)
  carry (hiding d) (hide gates body) r s t a c cl af h = (h.0, h.1, h.2, carry d body r s t (doing h.0 h.1) h.2 cl af h.3, h.4, h.5, h.6)
  carry (pass d) (hide gates body) r s t a c cl af h = (h.0, carry d body r s t a h.0 cl af h.1, h.2, h.3)
  carry (enstep d) (enable x xs y) r s t a c cl af h = (
    h.0,
    carry d x r s t a h.0 cl af h.1,
    h.2,
    h.3 ∙ ap (enable h.0 xs) (sym (twice y (without xs r) (without xs s) (without xs t) (closing_many xs s cl)
        (after_many xs r s t cl af))),
  )
  carry (enend d) (enable x xs y) r s t a c cl af h =
      let z = handed_put program.theory xs h.0 r s t h.2 cl af h.5 in (
        h.0,
        h.1,
        z.0,
        carry d x r s t (Exit h.0) h.1 cl af h.3,
        h.4,
        z.1,
        h.6
            ∙ sym (twice y z.0 (without xs s) h.2 (closing_many xs s cl) z.2),
      )
  carry (disstep d) (disable x y) r s t a c cl af h =
      (h.0, carry d x r s t a h.0 cl af h.1, h.2, h.3 ∙ ap (disable h.0) (sym (twice y r s t cl af)))
  carry (disend d) (disable x y) r s t a c cl af h = (carry d x r s t a c cl af h.0, h.1)
  carry (distake d) (disable x y) r s t a c cl af h = carry d y r s t a c cl af h
  carry (calling d) (call p actual terms) r s t a c cl af h =
      (h.0, h.1, h.2, h.3, h.4, arguments_put program.theory r s t af h.1 terms variable h.3 h.5, h.6)
  carry (rel d) (relabel pairs body) r s t a c cl af h = (h.0, h.1, carry d body r s t h.0 h.1 cl af h.2, h.3, h.4)
  carry _ _ r s t a c cl af h = absurd h
