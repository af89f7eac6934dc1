-- Trees of rules whose chosen values are left open, without places in memory.
use Rattle.std.specs.Prelude.{List, [], ◌∷◌, map, flat_map, Bool, true, false}
use Rattle.std.specs.Fn.{iterate}
use Rattle.spec_core.specs.Theories.{Theory}
use Rattle.rule_model.specs.declared.rules.Slot.{Slot}
use Rattle.rule_model.specs.Derivations.{Derivation, pre, int, exiting, chl, chr, val, gate, guard, letting, parl, parr, both, hiding, pass}
use Rattle.rule_model.specs.Derivations.{enstep, enend, disstep, disend, distake, calling, rel}
use Rattle.symbolic_rules.specs.Windows.{Windows}
use Rattle.symbolic_composites.specs.OpenFields.{OpenField, fixed, blank, all_choices, choices_at_once}
use Rattle.symbolic_plans.specs.declared.column.Column.{Column}
use Rattle.symbolic_plans.specs.declared.column.Column.TheVariants.{Told, Blank}
use Rattle.symbolic_plans.specs.declared.scheme.Row.{Row}
use Rattle.symbolic_plans.specs.declared.scheme.Row.TheVariants.{Chl, Chr, Val, Gate, Guard, Let, Parl, Parr, Pass, Enstep, Disstep}
use Rattle.symbolic_plans.specs.declared.scheme.Row.TheVariants.{Disend}
use Rattle.symbolic_plans.specs.declared.scheme.Row.TheVariants.{Distake, Call, Rel}
use Rattle.symbolic_plans.specs.declared.scheme.Scheme.{Scheme}
use Rattle.symbolic_plans.specs.declared.scheme.Scheme.TheVariants.{Pre, Int, Exit, Under', Hide', Enend', Both'}

-- the open field that a column of the program stands for
abbrev pub field_of : Column → OpenField
field_of (Told v marked) = fixed marked v
field_of (Blank sort marked) = blank marked sort.0

-- the rule over the tree of its part
abbrev pub put_row : Row → Derivation → Derivation
put_row Chl d = chl d
put_row Chr d = chr d
put_row (Val slot) d = val slot d
put_row (Gate place) d = gate place d
put_row Guard d = guard d
put_row Let d = letting d
put_row Parl d = parl d
put_row Parr d = parr d
put_row Pass d = pass d
put_row Enstep d = enstep d
put_row Disstep d = disstep d
put_row Disend d = disend d
put_row Distake d = distake d
put_row Call d = calling d
put_row Rel d = rel d

-- A tree of rules whose chosen values are open: of a prefix and an exit, which of its fields take a value; of an action that turns
-- internal, the fields that were open until then.
pub data Plan : Type 0 where
  prefix : List Bool → Plan
  internal : Plan
  termination : List Bool → Plan
  below : Row → Plan → Plan
  hidden : List OpenField → Plan → Plan
  handed_on : List OpenField → Plan → Plan
  together : Plan → Plan → Plan

-- the plan that a value of the program stands for
abbrev pub plan_of : Scheme → Plan
plan_of (Pre takes) = prefix takes.items
plan_of Int = internal
plan_of (Exit takes) = termination takes.items
plan_of (Under' row more p part) = below row (iterate (below row) more (plan_of part))
plan_of (Hide' columns p part) = hidden (map field_of columns.items) (plan_of part)
plan_of (Enend' columns p part) = handed_on (map field_of columns.items) (plan_of part)
plan_of (Both' p left q right) = together (plan_of left) (plan_of right)

-- the slots of an action, where each field may have these; the leftmost slowest
abbrev pub taken_slots : List Bool → List (List Slot) → List (List Slot)
taken_slots [] choices = [] ∷ []
taken_slots (taken ∷ takes) [] = []
taken_slots (false ∷ takes) (c ∷ choices) = taken_slots takes choices
taken_slots (true ∷ takes) (c ∷ choices) = flat_map (λ slot. map (λ slots. slot ∷ slots) (taken_slots takes choices)) c

-- the trees of a plan, in order, where each open field may have these values
abbrev pub trees_of : Theory → Windows → Plan → List (List Slot) → List Derivation
trees_of theory w (prefix takes) slots = map pre (taken_slots takes slots)
trees_of theory w internal slots = int ∷ []
trees_of theory w (termination takes) slots = map exiting (taken_slots takes slots)
trees_of theory w (below row p) slots = map (put_row row) (trees_of theory w p slots)
trees_of theory w (hidden fields p) slots =
    map hiding (flat_map (λ choices. trees_of theory w p choices) (choices_at_once fields (all_choices theory w [] fields)))
trees_of theory w (handed_on fields p) slots =
    map enend (flat_map (λ choices. trees_of theory w p choices) (choices_at_once fields (all_choices theory w [] fields)))
trees_of theory w (together p q) slots = flat_map (λ left. map (both left) (trees_of theory w q slots)) (trees_of theory w p slots)
