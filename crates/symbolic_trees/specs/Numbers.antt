-- Trees of a plan by their numbers. (This profile.)
use Rattle.std.specs.Prelude.{ℕ, ◌-◌, ◌^◌, min, List, [], flat_map}
use Rattle.spec_core.specs.Theories.{Theory}
use Rattle.rule_model.specs.declared.rules.Slot.{Slot}
use Rattle.rule_model.specs.Derivations.{Derivation}
use Rattle.symbolic_rules.specs.Windows.{Windows}
use Rattle.symbolic_composites.specs.OpenFields.{OpenField, all_choices, choices_at_once}
use Rattle.symbolic_plans.specs.Plans.{Plan, trees_of}

-- a number as 64 bits count it: what is above isn't told apart
abbrev pub counted : ℕ → ℕ
counted n = min n (2 ^ 64 - 1)

-- the trees of a plan whose fields may have these slots, filled in each way, in order
abbrev pub trees_at_once : Theory → Windows → List OpenField → Plan → List (List Slot) → List Derivation
trees_at_once theory w fields p choices = flat_map (λ own. trees_of theory w p own) (choices_at_once fields choices)

-- the trees of what turned internal, whose fields were these until then
abbrev pub own_trees : Theory → Windows → List OpenField → Plan → List Derivation
own_trees theory w fields p = trees_at_once theory w fields p (all_choices theory w [] fields)
