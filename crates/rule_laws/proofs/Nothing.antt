-- Where each variable stands for itself nothing is changed.
use Rattle.std.proofs.Common.{ℕ, ◌≡◌, ◌==◌, List, [], ◌∷◌, map, refl, sym, ap, ◌∙◌, Bool, true, false, if◌then◌else◌, Option, Some, None}
use Rattle.std.proofs.lemmas.Bool.{eqb-true}
use Rattle.spec_core.specs.Terms.{TermTree, TermTrees, variable, apply, no_terms, and_term, instance, instances}
use Rattle.spec_core.specs.Theories.{Premise, premise}
use Rattle.spec_core.specs.Code.{Variable, Binding, ExitValue, exit_given, exit_any, ActionField, give, accept}
use Rattle.spec_core.specs.Functionality.{accepted, bound_variables}
use Rattle.rule_model.specs.Behaviours.{Behaviour, stop, exit, inner, action, choice, guarded, bound, value_choice, gate_choice, parallel}
use Rattle.rule_model.specs.Behaviours.{hide, enable, disable, call, relabel}
use Rattle.rule_model.specs.Substitution.{Assignment, with_term, without, put_in_premise, put_in_guard, put_in_field, put_in_exit}
use Rattle.rule_model.specs.Substitution.{put_in_binding, put}
use Rattle.rule_laws.specs.Closing.{IsEmpty}
use Rattle.rule_laws.specs.Substitution.{EmptySubstitutionsChangeNothing}

module _ (s : Assignment) (empty : IsEmpty s) where
  mutual
    pub same_term : (t : TermTree) → instance s t ≡ t
    same_term (variable x) = empty x
    same_term (apply f ts) = ap (apply f) (same_arguments ts)

    same_arguments : (ts : TermTrees) → instances s ts ≡ ts
    same_arguments no_terms = refl
    same_arguments (and_term t ts) = ap (λ u. and_term u (instances s ts)) (same_term t) ∙ ap (and_term t) (same_arguments ts)

  same_premise : (p : Premise) → put_in_premise s p ≡ p
  same_premise (premise a b) = ap (λ x. premise x (instance s b)) (same_term a) ∙ ap (premise a) (same_term b)

  same_guard : (p : Option Premise) → put_in_guard s p ≡ p
  same_guard None = refl
  same_guard (Some p) = ap (λ (q : Premise). Some q) (same_premise p)

  same_fields : (fields : List ActionField) → map (put_in_field s) fields ≡ fields
  same_fields [] = refl
  same_fields (give e ∷ fields) =
      ap (λ x. give x ∷ map (put_in_field s) fields) (same_term e) ∙ ap (λ xs. give e ∷ xs) (same_fields fields)
  same_fields (accept x ∷ fields) = ap (λ xs. accept x ∷ xs) (same_fields fields)

  same_exit : (fields : List ExitValue) → map (put_in_exit s) fields ≡ fields
  same_exit [] = refl
  same_exit (exit_given e ∷ fields) =
      ap (λ x. exit_given x ∷ map (put_in_exit s) fields) (same_term e) ∙ ap (λ xs. exit_given e ∷ xs) (same_exit fields)
  same_exit (exit_any sort ∷ fields) = ap (λ xs. exit_any sort ∷ xs) (same_exit fields)

  same_bindings : (bindings : List Binding) → map (put_in_binding s) bindings ≡ bindings
  same_bindings [] = refl
  same_bindings (b ∷ bindings) =
      let make : TermTree → Binding = λ x. record { variable = b.variable; term = x } in
      ap (λ x. make x ∷ map (put_in_binding s) bindings) (same_term b.term) ∙ ap (λ xs. b ∷ xs) (same_bindings bindings)

  same_terms : (es : List TermTree) → map (instance s) es ≡ es
  same_terms [] = refl
  same_terms (e ∷ es) = ap (λ x. x ∷ map (instance s) es) (same_term e) ∙ ap (λ xs. e ∷ xs) (same_terms es)

empty_one : (x : Variable) (s : Assignment) → IsEmpty s → IsEmpty (with_term x (variable x.number) s)
empty_one x s empty y = by_test (y == x.number) refl
  where
    by_test : (b : Bool) → y == x.number ≡ b → (if b then variable x.number else s y) ≡ variable y
    by_test true e = ap variable (sym (eqb-true y x.number e))
    by_test false e = empty y

pub empty_many : (xs : List Variable) (s : Assignment) → IsEmpty s → IsEmpty (without xs s)
empty_many [] s empty = empty
empty_many (x ∷ xs) s empty = empty_many xs (with_term x (variable x.number) s) (empty_one x s empty)

same : (b : Behaviour) (s : Assignment) → IsEmpty s → put s b ≡ b
same stop s h = refl
same (exit fields) s h = ap exit (same_exit s h fields)
same (inner b) s h = ap inner (same b s h)
same (action g fields p b) s h =
    let i = empty_many (accepted fields) s h in
    ap (λ x. action g x (put_in_guard (without (accepted fields) s) p) (put (without (accepted fields) s) b)) (same_fields s h fields)
    ∙ ap (λ x. action g fields x (put (without (accepted fields) s) b)) (same_guard (without (accepted fields) s) i p)
    ∙ ap (action g fields p) (same b (without (accepted fields) s) i)
same (choice b c) s h = ap (λ x. choice x (put s c)) (same b s h) ∙ ap (choice b) (same c s h)
same (guarded p b) s h = ap (λ x. guarded x (put s b)) (same_premise s h p) ∙ ap (guarded p) (same b s h)
same (bound bindings b) s h =
    ap (λ x. bound x (put (without (bound_variables bindings) s) b)) (same_bindings s h bindings)
    ∙ ap (bound bindings) (same b (without (bound_variables bindings) s) (empty_many (bound_variables bindings) s h))
same (value_choice x b) s h = ap (value_choice x) (same b (without (x ∷ []) s) (empty_many (x ∷ []) s h))
same (gate_choice g gates b) s h = ap (gate_choice g gates) (same b s h)
same (parallel gates b c) s h = ap (λ x. parallel gates x (put s c)) (same b s h) ∙ ap (parallel gates b) (same c s h)
same (hide gates b) s h = ap (hide gates) (same b s h)
same (enable b xs c) s h =
    ap (λ x. enable x xs (put (without xs s) c)) (same b s h) ∙ ap (enable b xs) (same c (without xs s) (empty_many xs s h))
same (disable b c) s h = ap (λ x. disable x (put s c)) (same b s h) ∙ ap (disable b) (same c s h)
same (call p gates terms) s h = ap (call p gates) (same_terms s h terms)
same (relabel pairs b) s h = ap (relabel pairs) (same b s h)

pub empty_substitutions_change_nothing : EmptySubstitutionsChangeNothing
empty_substitutions_change_nothing s h b = same b s h
