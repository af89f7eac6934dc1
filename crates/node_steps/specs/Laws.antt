-- Laws of blanks.
use Rattle.std.specs.Prelude.{List}
use Rattle.spec_core.specs.Lists.{Each, IsOneOf}
use Rattle.spec_core.specs.Theories.{Theory}
use Rattle.rule_model.specs.declared.rules.Slot.{Slot}
use Rattle.rule_model.specs.declared.rules.Slot.TheVariants.{Of, Mark, Blank}
use Rattle.rule_model.specs.Derivations.{Derivation}
use Rattle.symbolic_rules.specs.Windows.{Windows}
use Rattle.symbolic_plans.specs.Plans.{Plan, trees_of}
use Rattle.node_trees.specs.Rests.{slots_of, Fills}
use Rattle.node_steps.specs.Blanks.{blank_tree}

-- a chosen value: neither a mark nor a blank
abbrev pub IsGiven : Slot → Type 0
IsGiven (Of v) = Unit {0}
IsGiven Mark = ⊥
IsGiven Blank = ⊥

-- each tree of a plan that chooses values alone is the plan's tree with these values in its blanks
abbrev pub TreesFillBlanks : Type 0
TreesFillBlanks =
    (theory : Theory) (w : Windows) (p : Plan) (slots : List (List Slot)) (d : Derivation) → IsOneOf d (trees_of theory w p slots) →
    Each IsGiven (slots_of d) →
    Fills (blank_tree p) d
