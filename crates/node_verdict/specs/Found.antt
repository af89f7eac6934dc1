-- What slots and expressions give for the fields of an action.
use Rattle.std.specs.Prelude.{ℕ, ◌≡◌}
use Rattle.spec_core.specs.Theories.{Theory}
use Rattle.rule_model.specs.declared.rules.Slot.{Slot}
use Rattle.symbolic_rules.specs.Windows.{Windows}
use Rattle.symbolic_rules.specs.MarkedTerms.{MarkedTerm}
use Rattle.symbolic_rules.specs.MarkedFields.{MarkedField, told, chosen, given, free, chosen_by, Chooses}
use Rattle.node_values.specs.declared.scope.Given.{Given}
use Rattle.node_values.specs.declared.scope.Given.TheVariants.{Value, Mark}
use Rattle.node_values.specs.Scopes.{marked_of}

-- the field of an action that a value or a mark makes, where an expression tells it, and where it is only chosen
abbrev pub told_field : Given → MarkedField
told_field (Value v) = told v
told_field (Mark sort) = given sort.0

abbrev pub chosen_field : Given → MarkedField
chosen_field (Value v) = chosen v
chosen_field (Mark sort) = free sort.0

-- What is given is what the slot chooses for the sort, whichever variable has it, and it makes this field.
pub record IsChosen (theory : Theory) (w : Windows) (slot : Slot) (sort : ℕ) (g : Given) : Type 0 where
  pub chooses : (x : ℕ) → Chooses theory w slot sort (marked_of theory x g)
  pub field : (x : ℕ) → chosen_by (marked_of theory x g) ≡ chosen_field g

-- the slot chooses nothing for the sort
pub record ChoosesNothing (theory : Theory) (w : Windows) (slot : Slot) (sort : ℕ) : Type 0 where
  pub none : (k : MarkedTerm) → Chooses theory w slot sort k → ⊥
