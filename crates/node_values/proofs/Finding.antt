-- What is found for a term that may be marked.
use Rattle.std.proofs.Common.{ℕ, ◌≡◌, List, [], ◌∷◌, map, refl, sym, ap, subst, ◌∙◌, false, ◌↔◌}
use Rattle.std.proofs.Common.{Option, Some, None, IfSome, Result, IfOk}
use Rattle.spec_core.specs.Executable.{IsExecutable}
use Rattle.spec_core.specs.Sorts.{FitsGround}
use Rattle.spec_core.specs.Terms.{TermTree, preorder}
use Rattle.spec_core.specs.Theories.{Theory}
use Rattle.spec_core.specs.Values.{HasValue}
use Rattle.spec_core.specs.Equality.{Equal}
use Rattle.rewriter.specs.Answers.{SpellsValue}
use Rattle.rule_model.specs.Fields.{GivesValue}
use Rattle.symbolic_rules.specs.MarkedTerms.{MarkedTerm, plain, mark, MayHaveValue}
use Rattle.rule_origins.specs.Values.{term_spelled}
use Rattle.rule_origins.proofs.Reading.{values_are_read}
use Rattle.symbolic_composites.specs.OpenFields.{OpenField, fixed, open_by}
use Rattle.node_values.specs.declared.scope.Given.{Given}
use Rattle.node_values.specs.declared.scope.Given.TheVariants.{Value, Mark}
use Rattle.node_values.specs.Found.{IsValueOf, HasNone, Spelled}
use Rattle.value_terms.proofs.Values.{spelled_value, found_value, equal_spelled}
use Rattle.node_values.specs.declared.scope.Instance.{Instance}
use Rattle.node_values.specs.Scopes.{marked_term_of, all_joined}
use Rattle.spec_core.specs.Terms.{terms}
use Rattle.symbolic_rules.specs.MarkedTerms.{MarkedAssignment, marked_instance, marked_instances, joined}

-- what an evaluation gives is the value, and is read as it
pub spelled_found : (theory : Theory) → IsExecutable theory → (t : TermTree) (v : List ℕ) (budget : ℕ) → FitsGround theory t →
    SpellsValue theory t budget v → Spelled theory t v
spelled_found theory executable t v budget fits found =
    let s = spelled_value theory executable t v budget fits.0 fits.1 found in
    record {
      value = s.0;
      has = found_value theory executable t s.0 v budget fits.0 fits.1 found s.1;
      spelled = s.1.spelled;
      read = λ x. values_are_read theory x v s.0 fits.0 s.1;
    }

pub value_found : (theory : Theory) (k : MarkedTerm) (t : TermTree) (v : List ℕ) → k ≡ plain t → Spelled theory t v →
    IsValueOf theory k (Value v)
value_found theory k t v is h =
    subst (λ z. IsValueOf theory z (Value v)) (sym is)
    (record {
      value = λ x. (h.value, h.has, ap plain (h.read x));
      field = λ x. ap (λ z. open_by (plain z)) (h.read x) ∙ ap (fixed false) (sym h.spelled);
    })

pub of_some : {A : Type 0} (P : A → Type 0) (o : Option A) (x : A) → o ≡ Some x → IfSome o P → P x
of_some P None x e h = let n : ⊥ = cc in absurd n
of_some P (Some y) x e h = let s : y ≡ x = cc in subst P s h

-- terms are equal exactly where their values are spelled alike
pub equal_found : (theory : Theory) → IsExecutable theory → (a b : TermTree) (v u : List ℕ) → Spelled theory a v → Spelled theory b u →
    (v ≡ u) ↔ Equal theory a b
equal_found theory executable a b v u h k =
    equal_spelled theory executable a b v u (h.value, record { value = h.has; spelled = h.spelled })
    (k.value, record { value = k.has; spelled = k.spelled })

-- the instances of a list of terms
pub instances_joined : (theory : Theory) (m : MarkedAssignment) (ts : List TermTree) →
    all_joined (map (marked_instance theory m) ts) ≡ marked_instances theory m (terms ts)
instances_joined theory m [] = refl
instances_joined theory m (t ∷ ts) = ap (joined (marked_instance theory m t)) (instances_joined theory m ts)

pub put_along : {E : Type 0} (r : Result Instance E) (a b : MarkedTerm) → a ≡ b → IfOk r (λ i. marked_term_of i ≡ a) →
    IfOk r (λ i. marked_term_of i ≡ b)
put_along r a b e h = subst (λ z. IfOk r (λ i. marked_term_of i ≡ z)) e h
