-- Whether a tree of a plan may have a mark, before any of them is built. (This profile.)
use Rattle.std.specs.Prelude.{◌||◌, List, [], ◌∷◌, Bool, false}
use Rattle.spec_core.specs.Theories.{Theory}
use Rattle.rule_model.specs.declared.rules.Slot.{Slot}
use Rattle.symbolic_rules.specs.Windows.{Windows}
use Rattle.symbolic_rules.specs.Trees.{is_mark, has_marks}
use Rattle.symbolic_composites.specs.OpenFields.{all_choices}
use Rattle.symbolic_plans.specs.declared.scheme.Row.{Row}
use Rattle.symbolic_plans.specs.declared.scheme.Row.TheVariants.{Val}
use Rattle.symbolic_plans.specs.Plans.{Plan, prefix, internal, termination, below, hidden, handed_on, together}

-- the mark is one of these slots of fields
abbrev pub any_mark : List (List Slot) → Bool
any_mark [] = false
any_mark (slots ∷ choices) = has_marks slots || any_mark choices

-- the rule has a mark
abbrev pub row_mark : Row → Bool
row_mark (Val slot) = is_mark slot
row_mark _ = false

-- a rule of the plan has a mark, or a field that takes a value may have one; `given` says so of the fields that are open
abbrev pub may_be_marked : Theory → Windows → Plan → Bool → Bool
may_be_marked theory w (prefix takes) given = given
may_be_marked theory w internal given = false
may_be_marked theory w (termination takes) given = given
may_be_marked theory w (below row p) given = row_mark row || may_be_marked theory w p given
may_be_marked theory w (hidden fields p) given = may_be_marked theory w p (any_mark (all_choices theory w [] fields))
may_be_marked theory w (handed_on fields p) given = may_be_marked theory w p (any_mark (all_choices theory w [] fields))
may_be_marked theory w (together p q) given = may_be_marked theory w p given || may_be_marked theory w q given
