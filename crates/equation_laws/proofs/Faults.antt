-- An equation that isn't well-formed has one refusal.
use Rattle.std.proofs.Common.{ℕ, ◌≡◌, [], ◌∷◌, refl, sym, ap, ◌∙◌}
use Rattle.std.specs.List.{slice_get}
use Rattle.lotos_ast.specs.declared.refusal.Refusal.{Refusal}
use Rattle.lotos_ast.specs.declared.refusal.RefusalKind.TheVariants.{ConstructorHasEquation, NotLeftLinear, LooseVariable}
use Rattle.spec_core.specs.Terms.{apply, Occurs}
use Rattle.spec_core.specs.Theories.{Theory, ConditionalEquation, Heads}
use Rattle.spec_core.specs.TermText.{operation_name, name_text}
use Rattle.equation_faults.specs.Faults.{IsFaultOf, refusal_at, constructor_has_equation, pattern_has_defined, not_left_linear, loose_variable}
use Rattle.equation_faults.specs.Variables.{variables, asked_variables}
use Rattle.equation_faults.proofs.Occurrences.{distinct, not_distinct}
use Rattle.equation_laws.proofs.Firsts.{first-one, repeated-one}

module _ (theory : Theory) (e : ConditionalEquation) where
  head-one : (f g : ℕ) → Heads f e → Heads g e → f ≡ g
  head-one f g h k = let z : apply f h.0 ≡ apply g k.0 = sym h.1 ∙ k.1 in cc

  pub fault-one : (r s : Refusal) → IsFaultOf theory e r → IsFaultOf theory e s → r ≡ s
  fault-one r s (constructor_has_equation f h m) (constructor_has_equation g k n) =
      ap (λ i. refusal_at ConstructorHasEquation e (operation_name (slice_get theory.operations i) ∷ [])) (head-one f g h k)
  fault-one r s (constructor_has_equation f h m) (pattern_has_defined u n) = absurd (u f h m)
  fault-one r s (constructor_has_equation f h m) (not_left_linear u p x n) = absurd (u f h m)
  fault-one r s (constructor_has_equation f h m) (loose_variable u p l x n) = absurd (u f h m)
  fault-one r s (pattern_has_defined u n) (constructor_has_equation f h m) = absurd (u f h m)
  fault-one r s (pattern_has_defined u n) (pattern_has_defined v m) = refl
  fault-one r s (pattern_has_defined u n) (not_left_linear v p x m) = absurd (n p)
  fault-one r s (pattern_has_defined u n) (loose_variable v p l x m) = absurd (n p)
  fault-one r s (not_left_linear u p x n) (constructor_has_equation f h m) = absurd (u f h m)
  fault-one r s (not_left_linear u p x n) (pattern_has_defined v m) = absurd (m p)
  fault-one r s (not_left_linear u p x n) (not_left_linear v q y m) =
      ap (λ i. refusal_at NotLeftLinear e (name_text (slice_get e.names i) ∷ [])) (repeated-one (variables e.left) x y n m)
  fault-one r s (not_left_linear u p x n) (loose_variable v q l y m) = absurd (not_distinct _ x n (distinct e.left l))
  fault-one r s (loose_variable u p l x n) (constructor_has_equation f h m) = absurd (u f h m)
  fault-one r s (loose_variable u p l x n) (pattern_has_defined v m) = absurd (m p)
  fault-one r s (loose_variable u p l x n) (not_left_linear v q y m) = absurd (not_distinct _ y m (distinct e.left l))
  fault-one r s (loose_variable u p l x n) (loose_variable v q k y m) =
      ap (λ i. refusal_at LooseVariable e (name_text (slice_get e.names i) ∷ [])) (first-one (λ z. Occurs z e.left → ⊥) (asked_variables e) x y n m)
