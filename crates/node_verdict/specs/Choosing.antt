-- Trees of rules that choose values.
use Rattle.std.specs.Prelude.{◌≡◌}
use Rattle.spec_core.specs.Lists.{Each}
use Rattle.spec_core.specs.Terms.{TermTree, preorder}
use Rattle.spec_core.specs.Theories.{Theory}
use Rattle.spec_core.specs.Values.{IsValue}
use Rattle.rule_model.specs.declared.rules.Slot.{Slot}
use Rattle.rule_model.specs.declared.rules.Slot.TheVariants.{Of, Mark, Blank}
use Rattle.rule_model.specs.Derivations.{Derivation}
use Rattle.node_trees.specs.Rests.{slots_of}

-- the list of operations that is chosen spells a value; a mark and a blank choose none
abbrev pub ChoosesValue : Theory → Slot → Type 0
ChoosesValue theory (Of v) = (n : TermTree) × (v ≡ preorder n) × IsValue theory n
ChoosesValue theory Mark = Unit {0}
ChoosesValue theory Blank = Unit {0}

-- so does each list that the tree chooses
abbrev pub ChoosesValues : Theory → Derivation → Type 0
ChoosesValues theory d = Each (ChoosesValue theory) (slots_of d)
