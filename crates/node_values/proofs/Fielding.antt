-- Fields, bindings and arguments, one after another.
use Rattle.std.proofs.Common.{ℕ, ◌≡◌, List, [], ◌∷◌, refl, sym, ap, subst, ◌∙◌}
use Rattle.spec_core.specs.Executable.{IsExecutable}
use Rattle.spec_core.specs.Terms.{TermTree}
use Rattle.spec_core.specs.Theories.{Theory}
use Rattle.spec_core.specs.Code.{Variable, Binding, ExitValue, exit_given, ActionField, give}
use Rattle.rule_laws.proofs.OneStep.{one_value}
use Rattle.symbolic_rules.specs.MarkedTerms.{MarkedTerm, plain, mark, MarkedAssignment, with_marked, marked_instance, MayHaveValue}
use Rattle.symbolic_rules.specs.MarkedFields.{BindingsMayHave, ArgumentsMayHave}
use Rattle.symbolic_composites.specs.OpenFields.{OpenField}
use Rattle.node_values.specs.declared.scope.Given.{Given}
use Rattle.node_values.specs.Found.{IsValueOf, FieldsOpen, ExitOpen, field_by}
use Rattle.node_values.specs.Scopes.{marked_of, marks_of}

module _ (theory : Theory) (m : MarkedAssignment) where
  pub field_given : (all : List ActionField) (t : TermTree) (rest : List ActionField) (cs others : List OpenField) (g : Given) →
      all ≡ give t ∷ rest → IsValueOf theory (marked_instance theory m t) g → FieldsOpen theory m rest others → cs ≡ field_by g ∷ others →
      FieldsOpen theory m all cs
  field_given all t rest cs others g is v h e =
      subst (λ l. FieldsOpen theory m l cs) (sym is)
      (marked_of theory 0 g, others, v.value 0, h, e ∙ ap (λ z. z ∷ others) (sym (v.field 0)))

  pub exit_given_by : (all : List ExitValue) (t : TermTree) (rest : List ExitValue) (cs others : List OpenField) (g : Given) →
      all ≡ exit_given t ∷ rest → IsValueOf theory (marked_instance theory m t) g → ExitOpen theory m rest others →
      cs ≡ field_by g ∷ others → ExitOpen theory m all cs
  exit_given_by all t rest cs others g is v h e =
      subst (λ l. ExitOpen theory m l cs) (sym is)
      (marked_of theory 0 g, others, v.value 0, h, e ∙ ap (λ z. z ∷ others) (sym (v.field 0)))

-- a term that may be marked has one value
one_marked : (theory : Theory) → IsExecutable theory → (k a b : MarkedTerm) → MayHaveValue theory k a → MayHaveValue theory k b → a ≡ b
one_marked theory executable (plain t) a b h l =
    h.2 ∙ ap plain (one_value theory executable t h.0 l.0 h.1 l.1) ∙ sym l.2
one_marked theory executable (mark sort) a b h l = h ∙ sym l

module _ (theory : Theory) (m : MarkedAssignment) where
  pub bound_by : (all : List Binding) (b : Binding) (rest : List Binding) (g : Given) (inner scope : List (ℕ × Given))
      (r : MarkedAssignment) → all ≡ b ∷ rest → IsValueOf theory (marked_instance theory m b.term) g →
      scope ≡ (b.variable.number, g) ∷ inner → BindingsMayHave theory m (marks_of theory scope) rest r →
      BindingsMayHave theory m (marks_of theory inner) all r
  bound_by all b rest g inner scope r is v more h =
      subst (λ l. BindingsMayHave theory m (marks_of theory inner) l r) (sym is) (
        marked_of theory b.variable.number g,
        v.value b.variable.number,
        subst (λ z. BindingsMayHave theory m (marks_of theory z) rest r) more h,
      )

  pub argument_by : (xs : List Variable) (terms : List TermTree) (x : Variable) (t : TermTree) (others : List Variable)
      (rest : List TermTree) (g : Given) (inner scope : List (ℕ × Given)) (r : MarkedAssignment) → xs ≡ x ∷ others → terms ≡ t ∷ rest →
      IsValueOf theory (marked_instance theory m t) g → scope ≡ (x.number, g) ∷ inner →
      ArgumentsMayHave theory m (marks_of theory scope) others rest r → ArgumentsMayHave theory m (marks_of theory inner) xs terms r
  argument_by xs terms x t others rest g inner scope r is has v more h =
      subst (λ l. ArgumentsMayHave theory m (marks_of theory inner) l terms r) (sym is)
      (subst (λ l. ArgumentsMayHave theory m (marks_of theory inner) (x ∷ others) l r) (sym has)
      (marked_of theory x.number g, v.value x.number, subst (λ z. ArgumentsMayHave theory m (marks_of theory z) others rest r) more h))

  pub none_bound : IsExecutable theory → (all : List Binding) (b : Binding) (rest : List Binding) (g : Given)
      (inner scope : List (ℕ × Given)) → all ≡ b ∷ rest → IsValueOf theory (marked_instance theory m b.term) g →
      scope ≡ (b.variable.number, g) ∷ inner →
      ((r : MarkedAssignment) → BindingsMayHave theory m (marks_of theory scope) rest r → ⊥) →
      (r : MarkedAssignment) → BindingsMayHave theory m (marks_of theory inner) all r → ⊥
  none_bound executable all b rest g inner scope is v more none r h =
      let j = subst (λ l. BindingsMayHave theory m (marks_of theory inner) l r) is h in
      let e = one_marked theory executable (marked_instance theory m b.term) j.0 (marked_of theory b.variable.number g) j.1
      (v.value b.variable.number) in
      none r (subst (λ z. BindingsMayHave theory m (marks_of theory z) rest r) (sym more)
      (subst (λ k. BindingsMayHave theory m (with_marked b.variable k (marks_of theory inner)) rest r) e j.2))

  pub none_argument : IsExecutable theory → (xs : List Variable) (terms : List TermTree) (x : Variable) (t : TermTree)
      (others : List Variable) (rest : List TermTree) (g : Given) (inner scope : List (ℕ × Given)) → xs ≡ x ∷ others → terms ≡ t ∷ rest →
      IsValueOf theory (marked_instance theory m t) g → scope ≡ (x.number, g) ∷ inner →
      ((r : MarkedAssignment) → ArgumentsMayHave theory m (marks_of theory scope) others rest r → ⊥) →
      (r : MarkedAssignment) → ArgumentsMayHave theory m (marks_of theory inner) xs terms r → ⊥
  none_argument executable xs terms x t others rest g inner scope is has v more none r h =
      let j = subst (λ l. ArgumentsMayHave theory m (marks_of theory inner) (x ∷ others) l r) has
      (subst (λ l. ArgumentsMayHave theory m (marks_of theory inner) l terms r) is h) in
      let e = one_marked theory executable (marked_instance theory m t) j.0 (marked_of theory x.number g) j.1 (v.value x.number) in
      none r (subst (λ z. ArgumentsMayHave theory m (marks_of theory z) others rest r) (sym more)
      (subst (λ k. ArgumentsMayHave theory m (with_marked x k (marks_of theory inner)) others rest r) e j.2))
