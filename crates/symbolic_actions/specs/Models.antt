-- What shown actions of the program stand for.
use Rattle.std.specs.Prelude.{map}
use Rattle.symbolic_rules.specs.MarkedFields.{MarkedField, told, chosen, given, free}
use Rattle.symbolic_plans.specs.OpenPlans.{kind_in}
use Rattle.symbolic_actions.specs.declared.field.ShownField.{ShownField}
use Rattle.symbolic_actions.specs.declared.field.ShownField.TheVariants.{Told, Chosen, Given, Free}
use Rattle.symbolic_actions.specs.declared.shown.Shown.{Shown}
use Rattle.symbolic_actions.specs.Shows.{Show}

-- the field that a field of the program stands for
abbrev pub marked_field_of : ShownField → MarkedField
marked_field_of (Told v) = told v
marked_field_of (Chosen v) = chosen v
marked_field_of (Given sort) = given sort.0
marked_field_of (Free sort) = free sort.0

abbrev pub show_of : Shown → Show
show_of s = record { kind = kind_in s.kind; fields = map marked_field_of s.fields.items }
