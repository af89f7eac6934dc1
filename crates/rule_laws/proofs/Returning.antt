-- What a behaviour does after terms are put in, it does with these terms for its variables.
use Rattle.std.proofs.Common.{ℕ, List, [], ◌∷◌, map, refl, sym, ap, subst, ◌∙◌, Option, Some, None}
use Rattle.spec_core.specs.Terms.{TermTree, variable, instance}
use Rattle.spec_core.specs.Theories.{Theory, Premise, premise}
use Rattle.spec_core.specs.Equality.{Equal}
use Rattle.spec_core.specs.Values.{HasValue}
use Rattle.spec_core.specs.Code.{Program, Variable, Binding, ExitValue, exit_given, exit_any, ActionField, give, accept}
use Rattle.spec_core.specs.Functionality.{accepted, bound_variables}
use Rattle.rule_model.specs.declared.action.Action.{Action}
use Rattle.rule_model.specs.declared.action.Action.TheVariants.{Exit}
use Rattle.rule_model.specs.declared.rules.Slot.{Slot}
use Rattle.rule_model.specs.declared.rules.Slot.TheVariants.{Of}
use Rattle.rule_model.specs.Behaviours.{Behaviour, exit, inner, action, choice, guarded, bound, value_choice, gate_choice, parallel, hide}
use Rattle.rule_model.specs.Behaviours.{enable, disable, call, relabel}
use Rattle.rule_model.specs.Derivations.{Derivation, pre, int, exiting, chl, chr, val, gate, guard, letting, parl, parr, both, hiding}
use Rattle.rule_model.specs.Derivations.{pass, enstep, enend, disstep, disend, distake, calling, rel}
use Rattle.rule_model.specs.Substitution.{Assignment, with_term, without, put_in_premise, put_in_guard, put_in_field, put_in_exit}
use Rattle.rule_model.specs.Substitution.{put_in_binding, put}
use Rattle.rule_model.specs.Derives.{DerivesWith}
use Rattle.rule_model.specs.Fields.{GivesValue, PremiseHolds, GuardHolds, FieldsHave, ExitHas, BindingsHave, ArgumentsHave, IsHandedOn}
use Rattle.rule_model.specs.Actions.{doing}
use Rattle.rule_laws.specs.Closing.{IsClosing, IsAfter}
use Rattle.rule_laws.specs.Substitution.{SubstitutionKeepsSteps, HandingOnIsAfter}
use Rattle.rule_laws.proofs.Carrying.{after_bound, carry}
use Rattle.rule_laws.proofs.Putting.{instance_twice, closing_one, closing_many, after_many, twice}

module _ (theory : Theory) (r s t : Assignment) (after : IsAfter r s t) where
  value_take : (e : TermTree) (n : TermTree) → HasValue theory (instance r (instance s e)) n → HasValue theory (instance t e) n
  value_take e n h = subst (λ u. HasValue theory u n) (instance_twice r s t after e) h

  gives_take : (e : TermTree) (v : List ℕ) (n : TermTree) → GivesValue theory (instance r (instance s e)) v n →
      GivesValue theory (instance t e) v n
  gives_take e v n h = subst (λ u. GivesValue theory u v n) (instance_twice r s t after e) h

  premise_take : (p : Premise) → PremiseHolds theory r (put_in_premise s p) → PremiseHolds theory t p
  premise_take (premise a b) h =
      subst (λ u. Equal theory u (instance t b)) (instance_twice r s t after a)
      (subst (λ u. Equal theory (instance r (instance s a)) u) (instance_twice r s t after b) h)

  guard_take : (p : Option Premise) → GuardHolds theory r (put_in_guard s p) → GuardHolds theory t p
  guard_take None h = tt
  guard_take (Some p) h = premise_take p h

  exit_take : (fields : List ExitValue) (slots : List Slot) (values : List (List ℕ)) →
      ExitHas theory r (map (put_in_exit s) fields) slots values → ExitHas theory t fields slots values
  exit_take [] [] [] h = tt
  exit_take (exit_given e ∷ fields) slots (v ∷ values) h = ((h.0.0, gives_take e v h.0.0 h.0.1), exit_take fields slots values h.1)
  exit_take (exit_any sort ∷ fields) (Of w ∷ slots) (v ∷ values) h = (h.0, h.1, exit_take fields slots values h.2)
  exit_take _ _ _ h = absurd h

  fields_take : (fields : List ActionField) (slots : List Slot) (values : List (List ℕ)) (i j k q : Assignment) → IsClosing j →
      IsAfter i j k → FieldsHave theory r i (map (put_in_field s) fields) slots values q
      → (u : Assignment) × FieldsHave theory t k fields slots values u × IsAfter q (without (accepted fields) j) u
  fields_take [] [] [] i j k q c a h = (k, refl, subst (λ x. IsAfter x j k) (sym h) a)
  fields_take (give e ∷ fields) slots (v ∷ values) i j k q c a h =
      let z = fields_take fields slots values i j k q c a h.1 in
      (z.0, ((h.0.0, gives_take e v h.0.0 h.0.1), z.1), z.2)
  fields_take (accept x ∷ fields) (Of w ∷ slots) (v ∷ values) i j k q c a h =
      let z = fields_take fields slots values (with_term x h.1 i) (with_term x (variable x.number) j) (with_term x h.1 k) q
      (closing_one j x c) (after_bound i j k x h.1 c a) h.3 in
      (z.0, (h.0, h.1, h.2, z.1), z.2)
  fields_take _ _ _ i j k q c a h = absurd h

  bindings_take : (bindings : List Binding) (i j k q : Assignment) → IsClosing j → IsAfter i j k →
      BindingsHave theory r i (map (put_in_binding s) bindings) q
      → (u : Assignment) × BindingsHave theory t k bindings u × IsAfter q (without (bound_variables bindings) j) u
  bindings_take [] i j k q c a h = (k, refl, subst (λ x. IsAfter x j k) (sym h) a)
  bindings_take (b ∷ bindings) i j k q c a h =
      let x = b.variable in
      let z = bindings_take bindings (with_term x h.0 i) (with_term x (variable x.number) j) (with_term x h.0 k) q (closing_one j x c)
      (after_bound i j k x h.0 c a) h.2 in
      (z.0, (h.0, value_take b.term h.0 h.1, z.1), z.2)

  arguments_take : (xs : List Variable) (terms : List TermTree) (k u : Assignment) →
      ArgumentsHave theory r k xs (map (instance s) terms) u → ArgumentsHave theory t k xs terms u
  arguments_take [] [] k u h = h
  arguments_take (x ∷ xs) (e ∷ terms) k u h = (h.0, value_take e h.0 h.1, arguments_take xs terms (with_term x h.0 k) u h.2)
  arguments_take _ _ k u h = absurd h

handed_take : (theory : Theory) (xs : List Variable) (values : List (List ℕ)) (i j k q : Assignment) → IsClosing j → IsAfter i j k →
    IsHandedOn theory i xs values q
    → (u : Assignment) × IsHandedOn theory k xs values u × IsAfter q (without xs j) u
handed_take theory [] [] i j k q c a h = (k, refl, subst (λ x. IsAfter x j k) (sym h) a)
handed_take theory (x ∷ xs) (v ∷ values) i j k q c a h =
    let z = handed_take theory xs values (with_term x h.0 i) (with_term x (variable x.number) j) (with_term x h.0 k) q (closing_one j x c)
    (after_bound i j k x h.0 c a) h.2 in
    (z.0, (h.0, h.1, z.1), z.2)
handed_take theory _ _ i j k q c a h = absurd h

module _ (program : Program) where
  pub take_back : (d : Derivation) (b : Behaviour) (r s t : Assignment) (a : Action) (c : Behaviour) → IsClosing s → IsAfter r s t →
      DerivesWith program r (put s b) d a c → DerivesWith program t b d a c
  take_back (pre slots) (action g fields p rest) r s t a c cl af h =
      let z = fields_take program.theory r s t af fields slots h.0 r s t h.1 cl af h.3 in
      let xs = accepted fields in (
        h.0,
        z.0,
        h.2,
        z.1,
        guard_take program.theory h.1 (without xs s) z.0 z.2 p h.4,
        h.5
            ∙ twice rest h.1 (without xs s) z.0 (closing_many xs s cl) z.2,
      )
  take_back int (inner rest) r s t a c cl af h = (h.0, h.1 ∙ twice rest r s t cl af)
  take_back (exiting slots) (exit fields) r s t a c cl af h = (h.0, h.1, exit_take program.theory r s t af fields slots h.0 h.2, h.3)
  take_back (chl d) (choice x y) r s t a c cl af h = take_back d x r s t a c cl af h
  take_back (chr d) (choice x y) r s t a c cl af h = take_back d y r s t a c cl af h
  take_back (val (Of v) d) (value_choice x body) r s t a c cl af h = (
    h.0,
    h.1,
    take_back d body (with_term x h.0 r) (with_term x (variable x.number) s) (with_term x h.0 t) a c (closing_one s x cl)
        (after_bound r s t x h.0 cl af) h.2,
  )
  take_back (gate n d) (gate_choice g gates body) r s t a c cl af h =
      (h.0, h.1, h.2, h.3, take_back d (relabel (record { from = g; to = h.1 } ∷ []) body) r s t a c cl af h.4)
  take_back (guard d) (guarded p body) r s t a c cl af h =
      (premise_take program.theory r s t af p h.0, take_back d body r s t a c cl af h.1)
  take_back (letting d) (bound bindings body) r s t a c cl af h =
      let z = bindings_take program.theory r s t af bindings r s t h.0 cl af h.1 in
      let xs = bound_variables bindings in
      (z.0, z.1, take_back d body h.0 (without xs s) z.0 a c (closing_many xs s cl) z.2 h.2)
  take_back (parl d) (parallel gates x y) r s t a c cl af h =
      (h.0, take_back d x r s t a h.0 cl af h.1, h.2, h.3 ∙ ap (parallel gates h.0) (twice y r s t cl af))
  take_back (parr d) (parallel gates x y) r s t a c cl af h =
      (h.0, take_back d y r s t a h.0 cl af h.1, h.2, h.3 ∙ ap (λ z. parallel gates z h.0) (twice x r s t cl af))
  take_back (both d e) (parallel gates x y) r s t a c cl af h =
      (h.0, h.1, take_back d x r s t a h.0 cl af h.2, take_back e y r s t a h.1 cl af h.3, h.4, h.5)
  take_back (hiding d) (hide gates body) r s t a c cl af h =
      (h.0, h.1, h.2, take_back d body r s t (doing h.0 h.1) h.2 cl af h.3, h.4, h.5, h.6)
  take_back (pass d) (hide gates body) r s t a c cl af h = (h.0, take_back d body r s t a h.0 cl af h.1, h.2, h.3)
  take_back (enstep d) (enable x xs y) r s t a c cl af h = (
    h.0,
    take_back d x r s t a h.0 cl af h.1,
    h.2,
    h.3 ∙ ap (enable h.0 xs) (twice y (without xs r) (without xs s) (without xs t) (closing_many xs s cl) (after_many xs r s t cl af)),
  )
  take_back (enend d) (enable x xs y) r s t a c cl af h =
      let z = handed_take program.theory xs h.0 r s t h.2 cl af h.5 in (
        h.0,
        h.1,
        z.0,
        take_back d x r s t (Exit h.0) h.1 cl af h.3,
        h.4,
        z.1,
        h.6
            ∙ twice y h.2 (without xs s) z.0 (closing_many xs s cl) z.2,
      )
  take_back (disstep d) (disable x y) r s t a c cl af h =
      (h.0, take_back d x r s t a h.0 cl af h.1, h.2, h.3 ∙ ap (disable h.0) (twice y r s t cl af))
  take_back (disend d) (disable x y) r s t a c cl af h = (take_back d x r s t a c cl af h.0, h.1)
  take_back (distake d) (disable x y) r s t a c cl af h = take_back d y r s t a c cl af h
  take_back (calling d) (call p actual terms) r s t a c cl af h =
      (h.0, h.1, h.2, h.3, h.4, arguments_take program.theory r s t af h.1 terms variable h.3 h.5, h.6)
  take_back (rel d) (relabel pairs body) r s t a c cl af h = (h.0, h.1, take_back d body r s t h.0 h.1 cl af h.2, h.3, h.4)
  take_back _ _ r s t a c cl af h = absurd h

pub substitution_keeps_steps : SubstitutionKeepsSteps
substitution_keeps_steps program r s t cl af b d a c = (carry program d b r s t a c cl af, take_back program d b r s t a c cl af)

pub handing_on_is_after : HandingOnIsAfter
handing_on_is_after theory xs values r s t q c a h = handed_take theory xs values r s t q c a h
