-- Fields that stand for values.
use Rattle.std.proofs.Common.{ℕ, ◌≡◌, List, [], ◌∷◌, refl, sym, ap, subst, ◌∙◌}
use Rattle.spec_core.specs.Terms.{TermTree, instance, preorder}
use Rattle.spec_core.specs.Theories.{Theory}
use Rattle.spec_core.specs.Sorts.{FitsData}
use Rattle.spec_core.specs.Code.{Variable, Binding, ExitValue, exit_given, exit_any, ActionField, give, accept}
use Rattle.rule_model.specs.declared.rules.Slot.{Slot}
use Rattle.rule_model.specs.declared.rules.Slot.TheVariants.{Of}
use Rattle.rule_model.specs.Fields.{Spells, FieldsHave, ExitHas, BindingsHave, ArgumentsHave, IsHandedOn}
use Rattle.rule_model.specs.Substitution.{Assignment, with_term}
use Rattle.symbolic_rules.specs.Windows.{Windows, sort_of_value}
use Rattle.symbolic_rules.specs.MarkedTerms.{MarkedTerm, plain, mark, MarkedAssignment, with_marked, marked_instance}
use Rattle.symbolic_rules.specs.MarkedFields.{MarkedField, told, chosen, given, free, told_by, sort_of_field, Agree, AllAgree}
use Rattle.symbolic_rules.specs.MarkedFields.{HaveSortsOf, FieldsMayHave, ExitMayHave, BindingsMayHave, ArgumentsMayHave}
use Rattle.symbolic_rules.proofs.Sorts.{IsSpelled, sort_of_spelled}
use Rattle.symbolic_rules.proofs.Standing.{StandsForTerm, StandsForAll, instance_stands, with_one_more, value_stands}

-- the field is the value, which is one of its sort where it is only chosen; or it is the mark of the value's sort, from an expression
abbrev pub StandsFor : Theory → MarkedField → List ℕ → Type 0
StandsFor theory (told u) v = u ≡ v
StandsFor theory (chosen u) v = (u ≡ v) × IsSpelled theory (sort_of_value theory u) u
StandsFor theory (given sort) v = sort_of_value theory v ≡ sort
StandsFor theory (free sort) v = ⊥

abbrev pub StandFor : Theory → List MarkedField → List (List ℕ) → Type 0
StandFor theory [] [] = Unit {0}
StandFor theory (f ∷ fs) (v ∷ values) = StandsFor theory f v × StandFor theory fs values
StandFor theory _ _ = ⊥

pub sort_stands : (theory : Theory) (f : MarkedField) (v : List ℕ) → StandsFor theory f v → sort_of_field theory f ≡ sort_of_value theory v
sort_stands theory (told u) v h = ap (sort_of_value theory) h
sort_stands theory (chosen u) v h = ap (sort_of_value theory) h.0
sort_stands theory (given sort) v h = sym h
sort_stands theory (free sort) v h = absurd h

told_stands : (theory : Theory) (k : MarkedTerm) (n : TermTree) (v : List ℕ) → StandsForTerm theory k n → v ≡ preorder n →
    StandsFor theory (told_by k) v
told_stands theory (plain u) n v h e = ap preorder h ∙ sym e
told_stands theory (mark sort) n v h e = ap (sort_of_value theory) e ∙ h

chosen_stands : (theory : Theory) (u v : List ℕ) (n : TermTree) (sort : ℕ) → u ≡ v → Spells theory u n sort →
    StandsFor theory (chosen (preorder n)) v
chosen_stands theory u v n sort e h = (
  sym h.spelled ∙ e,
  subst (λ (x : List ℕ). IsSpelled theory (sort_of_value theory x) x) h.spelled
      (subst (λ (s : ℕ). IsSpelled theory s u) (sym (sort_of_spelled theory u n sort h)) (n, h)),
)

-- what an action does with terms for the variables, its fields may have with what stands for these terms
module _ (theory : Theory) (fits : FitsData theory) (w : Windows) (m : MarkedAssignment) (s : Assignment)
    (stands : StandsForAll theory m s) where
  pub fields_stand : (fields : List ActionField) (slots : List Slot) (values : List (List ℕ)) (l : MarkedAssignment) (t u : Assignment) →
      StandsForAll theory l t → FieldsHave theory s t fields slots values u →
      (fs : List MarkedField) × (r : MarkedAssignment) × FieldsMayHave theory w m l fields slots fs r × StandFor theory fs values ×
      StandsForAll theory r u
  fields_stand [] [] [] l t u i h = ([], l, refl, tt, subst (λ (z : Assignment). StandsForAll theory l z) (sym h) i)
  fields_stand (give e ∷ fields) slots (v ∷ values) l t u i h =
      let at = instance_stands theory m s stands e in
      let k = value_stands theory fits (marked_instance theory m e) (instance s e) h.0.0 at h.0.1.value in
      let rest = fields_stand fields slots values l t u i h.1 in (
        told_by k.0 ∷ rest.0,
        rest.1,
        ((k.0, k.1, refl), rest.2),
        (told_stands theory k.0 h.0.0 v k.2 h.0.1.spelled, rest.3),
        rest.4,
      )
  fields_stand (accept x ∷ fields) (Of o ∷ slots) (v ∷ values) l t u i h =
      let rest = fields_stand fields slots values (with_marked x (plain h.1) l) (with_term x h.1 t) u
      (with_one_more theory l t i x (plain h.1) h.1 refl) h.3 in (
        chosen (preorder h.1) ∷ rest.0,
        rest.1,
        (plain h.1, (h.1, h.2, refl), refl, rest.2),
        (chosen_stands theory o v h.1 x.sort h.0 h.2, rest.3),
        rest.4,
      )
  fields_stand _ _ _ l t u i h = absurd h

  pub exit_stands : (fields : List ExitValue) (slots : List Slot) (values : List (List ℕ)) → ExitHas theory s fields slots values →
      (fs : List MarkedField) × ExitMayHave theory w m fields slots fs × StandFor theory fs values
  exit_stands [] [] [] h = ([], tt, tt)
  exit_stands (exit_given e ∷ fields) slots (v ∷ values) h =
      let at = instance_stands theory m s stands e in
      let k = value_stands theory fits (marked_instance theory m e) (instance s e) h.0.0 at h.0.1.value in
      let rest = exit_stands fields slots values h.1 in
      (told_by k.0 ∷ rest.0, ((k.0, k.1, refl), rest.1), (told_stands theory k.0 h.0.0 v k.2 h.0.1.spelled, rest.2))
  exit_stands (exit_any sort ∷ fields) (Of o ∷ slots) (v ∷ values) h =
      let rest = exit_stands fields slots values h.2 in (
        chosen (preorder h.1.0) ∷ rest.0,
        ((plain h.1.0, (h.1.0, h.1.1, refl), refl), rest.1),
        (chosen_stands theory o v h.1.0 sort h.0 h.1.1, rest.2),
      )
  exit_stands _ _ _ h = absurd h

  pub bindings_stand : (bindings : List Binding) (l : MarkedAssignment) (t u : Assignment) → StandsForAll theory l t →
      BindingsHave theory s t bindings u → (r : MarkedAssignment) × BindingsMayHave theory m l bindings r × StandsForAll theory r u
  bindings_stand [] l t u i h = (l, refl, subst (λ (z : Assignment). StandsForAll theory l z) (sym h) i)
  bindings_stand (b ∷ bindings) l t u i h =
      let k = value_stands theory fits (marked_instance theory m b.term) (instance s b.term) h.0 (instance_stands theory m s stands b.term)
      h.1 in
      let rest = bindings_stand bindings (with_marked b.variable k.0 l) (with_term b.variable h.0 t) u
      (with_one_more theory l t i b.variable k.0 h.0 k.2) h.2 in
      (rest.0, (k.0, k.1, rest.1), rest.2)

  pub arguments_stand : (xs : List Variable) (terms : List TermTree) (l : MarkedAssignment) (t u : Assignment) → StandsForAll theory l t →
      ArgumentsHave theory s t xs terms u → (r : MarkedAssignment) × ArgumentsMayHave theory m l xs terms r × StandsForAll theory r u
  arguments_stand [] [] l t u i h = (l, refl, subst (λ (z : Assignment). StandsForAll theory l z) (sym h) i)
  arguments_stand (x ∷ xs) (e ∷ terms) l t u i h =
      let k = value_stands theory fits (marked_instance theory m e) (instance s e) h.0 (instance_stands theory m s stands e) h.1 in
      let rest = arguments_stand xs terms (with_marked x k.0 l) (with_term x h.0 t) u (with_one_more theory l t i x k.0 h.0 k.2) h.2 in
      (rest.0, (k.0, k.1, rest.1), rest.2)
  arguments_stand _ _ l t u i h = absurd h

-- fields that stand for values which are handed on have the sorts of the variables
pub sorts_of_handed : (theory : Theory) (xs : List Variable) (values : List (List ℕ)) (fs : List MarkedField) (t u : Assignment) →
    IsHandedOn theory t xs values u → StandFor theory fs values → HaveSortsOf theory xs fs
sorts_of_handed theory [] [] [] t u h k = tt
sorts_of_handed theory (x ∷ xs) (v ∷ values) (f ∷ fs) t u h k = (
  sort_stands theory f v k.0 ∙ sort_of_spelled theory v h.0 x.sort h.1,
  sorts_of_handed theory xs values fs (with_term x h.0 t) u h.2 k.1,
)
sorts_of_handed theory [] [] (f ∷ fs) t u h k = absurd k
sorts_of_handed theory (x ∷ xs) (v ∷ values) [] t u h k = absurd k
sorts_of_handed theory [] (v ∷ values) fs t u h k = absurd h
sorts_of_handed theory (x ∷ xs) [] fs t u h k = absurd h

-- fields that stand for one value agree, and are together a field that stands for it
agreed : (theory : Theory) (f g : MarkedField) (v : List ℕ) → StandsFor theory f v → StandsFor theory g v →
    (h : MarkedField) × Agree theory f g h × StandsFor theory h v
agreed theory (told a) (told b) v p q = (told a, (p ∙ sym q, refl), p)
agreed theory (told a) (chosen b) v p q = (told a, (p ∙ sym q.0, refl), p)
agreed theory (told a) (given s) v p q = (told a, (ap (sort_of_value theory) p ∙ q, refl), p)
agreed theory (chosen a) (told b) v p q = (told a, (p.0 ∙ sym q, refl), p.0)
agreed theory (chosen a) (chosen b) v p q = (chosen a, (p.0 ∙ sym q.0, refl), p)
agreed theory (chosen a) (given s) v p q = (chosen a, (ap (sort_of_value theory) p.0 ∙ q, refl), p)
agreed theory (given s) (told b) v p q = (told b, (ap (sort_of_value theory) q ∙ p, refl), q)
agreed theory (given s) (chosen b) v p q = (chosen b, (ap (sort_of_value theory) q.0 ∙ p, refl), q)
agreed theory (given s) (given t) v p q = (given s, (sym p ∙ q, refl), p)
agreed theory (free s) g v p q = absurd p
agreed theory f (free t) v p q = absurd q

pub all_agreed : (theory : Theory) (fs gs : List MarkedField) (values : List (List ℕ)) → StandFor theory fs values →
    StandFor theory gs values → (hs : List MarkedField) × AllAgree theory fs gs hs × StandFor theory hs values
all_agreed theory [] [] [] p q = ([], refl, tt)
all_agreed theory (f ∷ fs) (g ∷ gs) (v ∷ values) p q =
    let one = agreed theory f g v p.0 q.0 in
    let rest = all_agreed theory fs gs values p.1 q.1 in
    (one.0 ∷ rest.0, (one.1, rest.1), (one.2, rest.2))
all_agreed theory [] (g ∷ gs) [] p q = absurd q
all_agreed theory (f ∷ fs) [] (v ∷ values) p q = absurd q
all_agreed theory [] gs (v ∷ values) p q = absurd p
all_agreed theory (f ∷ fs) gs [] p q = absurd p
