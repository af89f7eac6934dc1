-- What exact answers say of what was found, and of what wasn't.
use Rattle.std.proofs.Common.{◌≡◌, List, [], ◌∷◌, refl, sym, ap, ◌∙◌, Option, Some, None, Bool, true, false}
use Rattle.std.proofs.Common.{option_map, option_and_then}
use Rattle.std.proofs.lemmas.Option.{same_Some}
use Rattle.spec_core.specs.Terms.{TermTree}
use Rattle.spec_core.specs.Theories.{Premise, premise}
use Rattle.spec_core.specs.Code.{Program, Variable, Binding, ExitValue, exit_given, exit_any, ActionField, give, accept}
use Rattle.spec_core.proofs.Options.{map_some, then_some}
use Rattle.symbolic_rules.specs.MarkedTerms.{MarkedTerm, plain, mark, MarkedAssignment, with_marked, marked_instance, MayHaveValue}
use Rattle.symbolic_rules.specs.MarkedTerms.{MayBeEqual, PremiseMayHold}
use Rattle.symbolic_rules.specs.MarkedFields.{BindingsMayHave, ArgumentsMayHave}
use Rattle.symbolic_composites.specs.Evaluations.{Evaluation, IsExact, marked_value, may_be_equal, premise_may_hold, with_bindings, with_arguments}
use Rattle.symbolic_composites.specs.OpenFields.{OpenField, blank, open_by, open_fields, open_exit}
use Rattle.symbolic_composites.proofs.Exact.{value_is}
use Rattle.node_values.specs.Found.{FieldsOpen, ExitOpen}

pub none_of : {A : Type 0} (o : Option A) → ((a : A) → o ≡ Some a → ⊥) → o ≡ None
none_of None h = refl
none_of (Some a) h = absurd (h a refl)

module _ (program : Program) (e : Evaluation) (exact : IsExact program e) where
  value_back : (k n : MarkedTerm) → marked_value program.theory e k ≡ Some n → MayHaveValue program.theory k n
  value_back (plain t) n h =
      let r = map_some (e.value t) plain n h in
      (r.0, (exact.value t r.0).1 r.1, sym r.2)
  value_back (mark sort) n h = sym (same_Some _ _ h)

  equal_back : (k l : MarkedTerm) → may_be_equal program.theory e k l ≡ true → MayBeEqual program.theory k l
  equal_back (plain a) (plain b) h = (exact.equal a b).1 h
  equal_back (plain a) (mark sort) h = tt
  equal_back (mark sort) (plain b) h = tt
  equal_back (mark sort) (mark other) h = tt

  false_of : (b : Bool) → (b ≡ true → ⊥) → b ≡ false
  false_of true h = absurd (h refl)
  false_of false h = refl

  pub premise_isnt : (m : MarkedAssignment) (p : Premise) → (PremiseMayHold program.theory m p → ⊥) →
      premise_may_hold program.theory e m p ≡ false
  premise_isnt m (premise a b) fails =
      false_of (may_be_equal program.theory e (marked_instance program.theory m a) (marked_instance program.theory m b))
      (λ h. fails (equal_back (marked_instance program.theory m a) (marked_instance program.theory m b) h))

  bindings_back : (m l r : MarkedAssignment) (bindings : List Binding) → with_bindings program.theory e m l bindings ≡ Some r →
      BindingsMayHave program.theory m l bindings r
  bindings_back m l r [] h = sym (same_Some _ _ h)
  bindings_back m l r (b ∷ bindings) h =
      let v = marked_instance program.theory m b.term in
      let t = then_some (marked_value program.theory e v)
      (λ k. with_bindings program.theory e m (with_marked b.variable k l) bindings) r h in
      (t.0, value_back v t.0 t.1, bindings_back m (with_marked b.variable t.0 l) r bindings t.2)

  pub bindings_arent : (m l : MarkedAssignment) (bindings : List Binding) →
      ((r : MarkedAssignment) → BindingsMayHave program.theory m l bindings r → ⊥) → with_bindings program.theory e m l bindings ≡ None
  bindings_arent m l bindings none =
      none_of (with_bindings program.theory e m l bindings) (λ r h. none r (bindings_back m l r bindings h))

  arguments_back : (m l r : MarkedAssignment) (xs : List Variable) (terms : List TermTree) →
      with_arguments program.theory e m l xs terms ≡ Some r → ArgumentsMayHave program.theory m l xs terms r
  arguments_back m l r [] [] h = sym (same_Some _ _ h)
  arguments_back m l r [] (u ∷ terms) h = let n : ⊥ = cc in absurd n
  arguments_back m l r (x ∷ xs) [] h = let n : ⊥ = cc in absurd n
  arguments_back m l r (x ∷ xs) (u ∷ terms) h =
      let v = marked_instance program.theory m u in
      let t = then_some (marked_value program.theory e v)
      (λ k. with_arguments program.theory e m (with_marked x k l) xs terms) r h in
      (t.0, value_back v t.0 t.1, arguments_back m (with_marked x t.0 l) r xs terms t.2)

  pub arguments_arent : (m l : MarkedAssignment) (xs : List Variable) (terms : List TermTree) →
      ((r : MarkedAssignment) → ArgumentsMayHave program.theory m l xs terms r → ⊥) → with_arguments program.theory e m l xs terms ≡ None
  arguments_arent m l xs terms none =
      none_of (with_arguments program.theory e m l xs terms) (λ r h. none r (arguments_back m l r xs terms h))

  pub fields_are : (m : MarkedAssignment) (fields : List ActionField) (cs : List OpenField) → FieldsOpen program.theory m fields cs →
      open_fields program.theory e m fields ≡ Some cs
  fields_are m [] cs h = ap Some (sym h)
  fields_are m (give t ∷ fields) cs h =
      ap (option_and_then (λ k. option_map (λ fs. open_by k ∷ fs) (open_fields program.theory e m fields)))
      (value_is program e exact (marked_instance program.theory m t) h.0 h.2)
      ∙ ap (option_map (λ fs. open_by h.0 ∷ fs)) (fields_are m fields h.1 h.3)
      ∙ ap Some (sym h.4)
  fields_are m (accept x ∷ fields) cs h =
      ap (option_map (λ fs. blank false x.sort ∷ fs)) (fields_are m fields h.0 h.1) ∙ ap Some (sym h.2)

  fields_back : (m : MarkedAssignment) (fields : List ActionField) (cs : List OpenField) →
      open_fields program.theory e m fields ≡ Some cs → FieldsOpen program.theory m fields cs
  fields_back m [] cs h = sym (same_Some _ _ h)
  fields_back m (give t ∷ fields) cs h =
      let v = marked_instance program.theory m t in
      let a = then_some (marked_value program.theory e v)
      (λ k. option_map (λ fs. open_by k ∷ fs) (open_fields program.theory e m fields)) cs h in
      let b = map_some (open_fields program.theory e m fields) (λ fs. open_by a.0 ∷ fs) cs a.2 in
      (a.0, b.0, value_back v a.0 a.1, fields_back m fields b.0 b.1, sym b.2)
  fields_back m (accept x ∷ fields) cs h =
      let b = map_some (open_fields program.theory e m fields) (λ fs. blank false x.sort ∷ fs) cs h in
      (b.0, fields_back m fields b.0 b.1, sym b.2)

  pub fields_arent : (m : MarkedAssignment) (fields : List ActionField) →
      ((cs : List OpenField) → FieldsOpen program.theory m fields cs → ⊥) → open_fields program.theory e m fields ≡ None
  fields_arent m fields none = none_of (open_fields program.theory e m fields) (λ cs h. none cs (fields_back m fields cs h))

  pub exit_is : (m : MarkedAssignment) (fields : List ExitValue) (cs : List OpenField) → ExitOpen program.theory m fields cs →
      open_exit program.theory e m fields ≡ Some cs
  exit_is m [] cs h = ap Some (sym h)
  exit_is m (exit_given t ∷ fields) cs h =
      ap (option_and_then (λ k. option_map (λ fs. open_by k ∷ fs) (open_exit program.theory e m fields)))
      (value_is program e exact (marked_instance program.theory m t) h.0 h.2)
      ∙ ap (option_map (λ fs. open_by h.0 ∷ fs)) (exit_is m fields h.1 h.3)
      ∙ ap Some (sym h.4)
  exit_is m (exit_any sort ∷ fields) cs h =
      ap (option_map (λ fs. blank false sort ∷ fs)) (exit_is m fields h.0 h.1) ∙ ap Some (sym h.2)

  exit_back : (m : MarkedAssignment) (fields : List ExitValue) (cs : List OpenField) →
      open_exit program.theory e m fields ≡ Some cs → ExitOpen program.theory m fields cs
  exit_back m [] cs h = sym (same_Some _ _ h)
  exit_back m (exit_given t ∷ fields) cs h =
      let v = marked_instance program.theory m t in
      let a = then_some (marked_value program.theory e v)
      (λ k. option_map (λ fs. open_by k ∷ fs) (open_exit program.theory e m fields)) cs h in
      let b = map_some (open_exit program.theory e m fields) (λ fs. open_by a.0 ∷ fs) cs a.2 in
      (a.0, b.0, value_back v a.0 a.1, exit_back m fields b.0 b.1, sym b.2)
  exit_back m (exit_any sort ∷ fields) cs h =
      let b = map_some (open_exit program.theory e m fields) (λ fs. blank false sort ∷ fs) cs h in
      (b.0, exit_back m fields b.0 b.1, sym b.2)

  pub exit_isnt : (m : MarkedAssignment) (fields : List ExitValue) →
      ((cs : List OpenField) → ExitOpen program.theory m fields cs → ⊥) → open_exit program.theory e m fields ≡ None
  exit_isnt m fields none = none_of (open_exit program.theory e m fields) (λ cs h. none cs (exit_back m fields cs h))
