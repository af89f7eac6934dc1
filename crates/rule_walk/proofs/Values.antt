-- A premise with a side that has no value.
use Rattle.spec_core.specs.Executable.{IsExecutable}
use Rattle.spec_core.specs.Terms.{TermTree, instance}
use Rattle.spec_core.specs.Theories.{premise, Theory}
use Rattle.rule_model.specs.Fields.{PremiseHolds}
use Rattle.rule_model.specs.Substitution.{Assignment}
use Rattle.rule_walk.specs.Faults.{HasNoValue}
use Rattle.value_terms.proofs.Values.{left_unequal, right_unequal}

module _ (theory : Theory) (executable : IsExecutable theory) where
  -- such a premise doesn't hold
  pub left_unheld : (s : Assignment) (a b : TermTree) → HasNoValue theory (instance s a) → PremiseHolds theory s (premise a b) → ⊥
  left_unheld s a b none equal = left_unequal theory executable (instance s a) (instance s b) none equal

  pub right_unheld : (s : Assignment) (a b : TermTree) → HasNoValue theory (instance s b) → PremiseHolds theory s (premise a b) → ⊥
  right_unheld s a b none equal = right_unequal theory executable (instance s a) (instance s b) none equal
