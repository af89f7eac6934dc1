-- Why premises aren't judged.
use Rattle.std.proofs.Common.{ℕ, ◌≡◌, List, inl, inr}
use Rattle.spec_core.specs.Executable.{IsExecutable}
use Rattle.spec_core.specs.Terms.{TermTree, instance}
use Rattle.spec_core.specs.Theories.{premise, Theory}
use Rattle.rule_model.specs.Fields.{GivesValue, PremiseHolds}
use Rattle.rule_model.specs.Substitution.{Assignment}
use Rattle.rule_walk.specs.declared.fault.FireFault.{FireFault}
use Rattle.rule_walk.specs.Asking.{PremiseAsks}
use Rattle.rule_walk.specs.Faults.{Explains, HasNoValue, Here}
use Rattle.rule_walk.proofs.Faults.{explains_on}
use Rattle.rule_walk.proofs.Values.{left_unheld, right_unheld}

module _ (theory : Theory) (executable : IsExecutable theory) (budget : ℕ) (s : Assignment) (a b : TermTree) (f : FireFault) where
  abbrev Unjudged : Type 0
  Unjudged = Explains theory budget (Here (PremiseHolds theory s (premise a b) → ⊥)) (PremiseAsks theory s (premise a b)) f

  pub left_unjudged : Explains theory budget (Here (HasNoValue theory (instance s a))) (λ x. x ≡ instance s a) f → Unjudged
  left_unjudged =
      explains_on theory budget (Here (HasNoValue theory (instance s a))) (Here (PremiseHolds theory s (premise a b) → ⊥))
      (λ x. x ≡ instance s a) (PremiseAsks theory s (premise a b)) f
      (λ path h. (h.0, left_unheld theory executable s a b h.1)) (λ x h. inl h)

  pub right_unjudged : (v : List ℕ) → (n : TermTree) × GivesValue theory (instance s a) v n →
      Explains theory budget (Here (HasNoValue theory (instance s b))) (λ x. x ≡ instance s b) f → Unjudged
  right_unjudged v left =
      explains_on theory budget (Here (HasNoValue theory (instance s b))) (Here (PremiseHolds theory s (premise a b) → ⊥))
      (λ x. x ≡ instance s b) (PremiseAsks theory s (premise a b)) f
      (λ path h. (h.0, right_unheld theory executable s a b h.1)) (λ x h. inr ((left.0, left.1.value), h))
