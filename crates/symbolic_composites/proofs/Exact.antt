-- What may be so is what an exact evaluation answers.
use Rattle.std.proofs.Common.{ℕ, ◌≡◌, List, [], ◌∷◌, refl, sym, ap, ◌∙◌, Some, None, true, if◌then◌else◌}
use Rattle.std.proofs.Common.{option_map, option_and_then}
use Rattle.spec_core.specs.Terms.{TermTree}
use Rattle.spec_core.specs.Theories.{Premise, premise}
use Rattle.spec_core.specs.Code.{Program, Variable, Binding}
use Rattle.rule_model.specs.declared.rules.Slot.{Slot}
use Rattle.rule_model.specs.declared.rules.Slot.TheVariants.{Of, Mark, Blank}
use Rattle.symbolic_rules.specs.Windows.{Windows}
use Rattle.symbolic_rules.specs.MarkedTerms.{MarkedTerm, plain, mark, MarkedAssignment, with_marked, marked_instance, MayHaveValue}
use Rattle.symbolic_rules.specs.MarkedTerms.{MayBeEqual}
use Rattle.symbolic_rules.specs.MarkedTerms.{PremiseMayHold}
use Rattle.symbolic_rules.specs.MarkedFields.{Chooses, BindingsMayHave, ArgumentsMayHave}
use Rattle.symbolic_composites.specs.Evaluations.{Evaluation, IsExact, marked_value, may_be_equal, premise_may_hold, chosen_term}
use Rattle.symbolic_composites.specs.Evaluations.{with_bindings, with_arguments}

module _ (program : Program) (e : Evaluation) (exact : IsExact program e) where
  pub value_is : (k n : MarkedTerm) → MayHaveValue program.theory k n → marked_value program.theory e k ≡ Some n
  value_is (plain t) n h = ap (option_map plain) ((exact.value t h.0).0 h.1) ∙ ap Some (sym h.2)
  value_is (mark sort) n h = ap Some (sym h)

  pub chosen_is : (w : Windows) (slot : Slot) (sort : ℕ) (k : MarkedTerm) → Chooses program.theory w slot sort k →
      chosen_term program.theory e w slot sort ≡ Some k
  chosen_is w (Of v) sort k h = ap (option_map plain) ((exact.spelled v sort h.0).0 h.1) ∙ ap Some (sym h.2)
  chosen_is w Mark sort k h = ap (λ b. if b then None else Some (mark sort)) h.0 ∙ ap Some (sym h.1)
  chosen_is w Blank sort k h = absurd h

  equal_is : (k l : MarkedTerm) → MayBeEqual program.theory k l → may_be_equal program.theory e k l ≡ true
  equal_is (plain a) (plain b) h = (exact.equal a b).0 h
  equal_is (plain a) (mark sort) h = refl
  equal_is (mark sort) l h = refl

  pub premise_is : (m : MarkedAssignment) (p : Premise) → PremiseMayHold program.theory m p → premise_may_hold program.theory e m p ≡ true
  premise_is m (premise a b) h = equal_is (marked_instance program.theory m a) (marked_instance program.theory m b) h

  pub bindings_are : (m l r : MarkedAssignment) (bindings : List Binding) → BindingsMayHave program.theory m l bindings r →
      with_bindings program.theory e m l bindings ≡ Some r
  bindings_are m l r [] h = ap Some (sym h)
  bindings_are m l r (b ∷ bindings) h =
      ap (option_and_then (λ k. with_bindings program.theory e m (with_marked b.variable k l) bindings))
      (value_is (marked_instance program.theory m b.term) h.0 h.1)
      ∙ bindings_are m (with_marked b.variable h.0 l) r bindings h.2

  pub arguments_are : (m l r : MarkedAssignment) (xs : List Variable) (terms : List TermTree) →
      ArgumentsMayHave program.theory m l xs terms r → with_arguments program.theory e m l xs terms ≡ Some r
  arguments_are m l r [] [] h = ap Some (sym h)
  arguments_are m l r (x ∷ xs) (t ∷ terms) h =
      ap (option_and_then (λ k. with_arguments program.theory e m (with_marked x k l) xs terms))
      (value_is (marked_instance program.theory m t) h.0 h.1)
      ∙ arguments_are m (with_marked x h.0 l) r xs terms h.2
  arguments_are m l r [] (t ∷ terms) h = absurd h
  arguments_are m l r (x ∷ xs) [] h = absurd h
