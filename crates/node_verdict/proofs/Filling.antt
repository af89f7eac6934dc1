-- Fields of actions and exits, one after another.
use Rattle.std.proofs.Common.{ℕ, ◌≡◌, List, [], ◌∷◌, refl, sym, ap, subst, ◌∙◌, Option, Some, Result, Ok, option_map}
use Rattle.std.proofs.Common.{false}
use Rattle.spec_core.specs.Code.{Variable, ExitValue, exit_given, exit_any, ActionField, give, accept}
use Rattle.spec_core.specs.Executable.{IsExecutable}
use Rattle.spec_core.specs.Terms.{TermTree, preorder}
use Rattle.spec_core.specs.Theories.{Theory}
use Rattle.spec_core.specs.Values.{IsValue}
use Rattle.rule_model.specs.declared.rules.Slot.{Slot}
use Rattle.rule_model.specs.declared.rules.Slot.TheVariants.{Of, Mark, Blank}
use Rattle.rule_model.specs.Fields.{Spells}
use Rattle.rule_origins.specs.Values.{term_spelled}
use Rattle.rule_origins.proofs.Reading.{values_are_read}
use Rattle.symbolic_rules.specs.Windows.{Windows}
use Rattle.symbolic_rules.specs.MarkedTerms.{MarkedTerm, plain, MarkedAssignment, with_marked, marked_instance}
use Rattle.symbolic_rules.specs.MarkedFields.{MarkedField, told, chosen, told_by, Chooses, FieldsMayHave, ExitMayHave}
use Rattle.symbolic_composites.specs.OpenFields.{fixed}
use Rattle.node_values.proofs.OneStep.{one_spelled}
use Rattle.node_values.specs.declared.scope.Given.{Given}
use Rattle.node_values.specs.declared.scope.Given.TheVariants.{Value, Mark as Marked}
use Rattle.node_values.specs.declared.stop.Stop.{Stop}
use Rattle.node_values.specs.Found.{IsValueOf}
use Rattle.node_values.specs.Scopes.{marked_of, marks_of}
use Rattle.symbolic_actions.specs.declared.shown.Shown.{Shown}
use Rattle.symbolic_actions.specs.Models.{show_of}
use Rattle.symbolic_actions.specs.Shows.{Show}
use Rattle.value_terms.specs.Spelled.{SpellsTerm}
use Rattle.value_terms.proofs.Enough.{one_term, sorted_arguments}
use Rattle.node_verdict.specs.Choosing.{ChoosesValue}
use Rattle.node_verdict.specs.Found.{IsChosen, ChoosesNothing, told_field, chosen_field}
use Rattle.node_verdict.specs.Judged.{Made}

-- what a rule makes, where the part shows something
pub made_some : (f : Show → Option Show) (p q : Result (Option Shown) Stop) (s : Shown) (o : Option Shown) → p ≡ Ok (Some s) → q ≡ Ok o →
    option_map show_of o ≡ f (show_of s) → Made f p q
made_some f p q s o is are made = subst (λ z. Made f z q) (sym is) (subst (Made f (Ok (Some s))) (sym are) made)

-- where a list of operations spells a value, the term of a sort that it spells is this value
spells_chosen : (theory : Theory) (v : List ℕ) (t : TermTree) (sort : ℕ) → SpellsTerm theory v t sort → ChoosesValue theory (Of v) →
    Spells theory v t sort
spells_chosen theory v t sort h (n, spelled, value) = record {
  spelled = h.spelled;
  of_sort = h.of_sort;
  is_value =
      subst (IsValue theory)
      (one_term theory n t (sorted_arguments theory n value.fits.0 value.fits.1) (sorted_arguments theory t sort h.of_sort)
      (sym spelled ∙ h.spelled)) value;
}

-- a value of the sort is what its slot chooses
pub value_chosen : (theory : Theory) (w : Windows) (slot : Slot) (v u : List ℕ) (t : TermTree) (sort : ℕ) → slot ≡ Of v → u ≡ v →
    SpellsTerm theory v t sort → ChoosesValue theory (Of v) → IsChosen theory w slot sort (Value u)
value_chosen theory w slot v u t sort is same spells value =
    let h = spells_chosen theory v t sort spells value in
    subst (λ z. IsChosen theory w z sort (Value u)) (sym is)
    (subst (λ z. IsChosen theory w (Of v) sort (Value z)) (sym same)
    (record {
      chooses = λ x. (t, h, ap plain (values_are_read theory x v t sort h));
      field = λ x. ap (λ z. chosen (preorder z)) (values_are_read theory x v t sort h) ∙ ap chosen (sym h.spelled);
    }))

-- where the list spells no term of the sort, the slot chooses nothing
pub none_chosen : (theory : Theory) (w : Windows) (v : List ℕ) (sort : ℕ) → ((t : TermTree) → SpellsTerm theory v t sort → ⊥) →
    ChoosesNothing theory w (Of v) sort
none_chosen theory w v sort none =
    record { none = λ k h. none h.0 (record { spelled = h.1.spelled; of_sort = h.1.of_sort }) }

-- an expression that has this value makes this field
told_so : (theory : Theory) (k : MarkedTerm) (g : Given) → IsValueOf theory k g → told_by (marked_of theory 0 g) ≡ told_field g
told_so theory k (Value v) h =
    let e : fixed false (preorder (term_spelled theory 0 v)) ≡ fixed false v = h.field 0 in
    let same : preorder (term_spelled theory 0 v) ≡ v = cc in
    ap told same
told_so theory k (Marked sort) h = refl

module _ (theory : Theory) (w : Windows) (m : MarkedAssignment) where
  pub field_told : (all : List ActionField) (t : TermTree) (rest : List ActionField) (slots : List Slot) (gs fs : List MarkedField)
      (g : Given) (l r : MarkedAssignment) → all ≡ give t ∷ rest → IsValueOf theory (marked_instance theory m t) g →
      FieldsMayHave theory w m l rest slots fs r → gs ≡ told_field g ∷ fs → FieldsMayHave theory w m l all slots gs r
  field_told all t rest slots gs fs g l r is v h e =
      subst (λ z. FieldsMayHave theory w m l z slots gs r) (sym is)
      (subst (λ z. FieldsMayHave theory w m l (give t ∷ rest) slots z r) (sym e)
      ((marked_of theory 0 g, v.value 0, sym (told_so theory (marked_instance theory m t) g v)), h))

  pub field_chosen : (all : List ActionField) (x : Variable) (rest : List ActionField) (these slots : List Slot) (slot : Slot)
      (gs fs : List MarkedField) (g : Given) (inner scope : List (ℕ × Given)) (r : MarkedAssignment) → all ≡ accept x ∷ rest →
      these ≡ slot ∷ slots → IsChosen theory w slot x.sort g → scope ≡ (x.number, g) ∷ inner →
      FieldsMayHave theory w m (marks_of theory scope) rest slots fs r → gs ≡ chosen_field g ∷ fs →
      FieldsMayHave theory w m (marks_of theory inner) all these gs r
  field_chosen all x rest these slots slot gs fs g inner scope r is are v more h e =
      subst (λ z. FieldsMayHave theory w m (marks_of theory inner) z these gs r) (sym is)
      (subst (λ z. FieldsMayHave theory w m (marks_of theory inner) (accept x ∷ rest) z gs r) (sym are)
      (subst (λ z. FieldsMayHave theory w m (marks_of theory inner) (accept x ∷ rest) (slot ∷ slots) z r) (sym e) (
        marked_of theory x.number g,
        v.chooses x.number,
        sym (v.field x.number),
        subst (λ z. FieldsMayHave theory w m (marks_of theory z) rest slots fs r) more h,
      )))

  -- a slot chooses one thing
  one_chosen : IsExecutable theory → (slot : Slot) (sort : ℕ) (k j : MarkedTerm) → Chooses theory w slot sort k → Chooses theory w slot sort j → j ≡ k
  one_chosen executable (Of v) sort k j h i = i.2 ∙ ap plain (one_spelled theory executable v i.0 h.0 sort i.1 h.1) ∙ sym h.2
  one_chosen executable Mark sort k j h i = i.1 ∙ sym h.1
  one_chosen executable Blank sort k j h i = absurd h

  pub no_field_chosen : IsExecutable theory → (all : List ActionField) (x : Variable) (rest : List ActionField) (these slots : List Slot) (slot : Slot)
      (g : Given) (inner scope : List (ℕ × Given)) → all ≡ accept x ∷ rest → these ≡ slot ∷ slots → IsChosen theory w slot x.sort g →
      scope ≡ (x.number, g) ∷ inner →
      ((fs : List MarkedField) (r : MarkedAssignment) → FieldsMayHave theory w m (marks_of theory scope) rest slots fs r → ⊥) →
      (fs : List MarkedField) (r : MarkedAssignment) → FieldsMayHave theory w m (marks_of theory inner) all these fs r → ⊥
  no_field_chosen executable all x rest these slots slot g inner scope is are v more none [] r h =
      subst (λ z. FieldsMayHave theory w m (marks_of theory inner) (accept x ∷ rest) z [] r) are
      (subst (λ z. FieldsMayHave theory w m (marks_of theory inner) z these [] r) is h)
  no_field_chosen executable all x rest these slots slot g inner scope is are v more none (f ∷ fs) r h =
      let i = subst (λ z. FieldsMayHave theory w m (marks_of theory inner) (accept x ∷ rest) z (f ∷ fs) r) are
      (subst (λ z. FieldsMayHave theory w m (marks_of theory inner) z these (f ∷ fs) r) is h) in
      let same = one_chosen executable slot x.sort (marked_of theory x.number g) i.0 (v.chooses x.number) i.1 in
      none fs r (subst (λ z. FieldsMayHave theory w m (marks_of theory z) rest slots fs r) (sym more)
      (subst (λ z. FieldsMayHave theory w m (with_marked x z (marks_of theory inner)) rest slots fs r) same i.3))

  -- the same of exits

  pub exit_told : (all : List ExitValue) (t : TermTree) (rest : List ExitValue) (slots : List Slot) (gs fs : List MarkedField) (g : Given) →
      all ≡ exit_given t ∷ rest → IsValueOf theory (marked_instance theory m t) g → ExitMayHave theory w m rest slots fs →
      gs ≡ told_field g ∷ fs → ExitMayHave theory w m all slots gs
  exit_told all t rest slots gs fs g is v h e =
      subst (λ z. ExitMayHave theory w m z slots gs) (sym is)
      (subst (λ z. ExitMayHave theory w m (exit_given t ∷ rest) slots z) (sym e)
      ((marked_of theory 0 g, v.value 0, sym (told_so theory (marked_instance theory m t) g v)), h))

  pub exit_chosen : (all : List ExitValue) (sort : ℕ) (rest : List ExitValue) (these slots : List Slot) (slot : Slot)
      (gs fs : List MarkedField) (g : Given) → all ≡ exit_any sort ∷ rest → these ≡ slot ∷ slots → IsChosen theory w slot sort g →
      ExitMayHave theory w m rest slots fs → gs ≡ chosen_field g ∷ fs → ExitMayHave theory w m all these gs
  exit_chosen all sort rest these slots slot gs fs g is are v h e =
      subst (λ z. ExitMayHave theory w m z these gs) (sym is)
      (subst (λ z. ExitMayHave theory w m (exit_any sort ∷ rest) z gs) (sym are)
      (subst (λ z. ExitMayHave theory w m (exit_any sort ∷ rest) (slot ∷ slots) z) (sym e)
      ((marked_of theory 0 g, v.chooses 0, sym (v.field 0)), h)))
