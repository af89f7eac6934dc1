-- Values of actions.
use Rattle.std.specs.Prelude.{ℕ, ◌≡◌, List}
use Rattle.spec_core.specs.Lists.{Each}
use Rattle.spec_core.specs.Terms.{TermTree, preorder}
use Rattle.spec_core.specs.Theories.{Theory}
use Rattle.spec_core.specs.Values.{IsValue}
use Rattle.rule_model.specs.declared.action.Action.{Action}
use Rattle.rule_model.specs.declared.action.Action.TheVariants.{Inner, Exit, At}

-- the list of operations spells a value
abbrev pub SpellsSome : Theory → List ℕ → Type 0
SpellsSome theory v = (n : TermTree) × (v ≡ preorder n) × IsValue theory n

-- so does each value of the action
abbrev pub HasSpelled : Theory → Action → Type 0
HasSpelled theory Inner = Unit {0}
HasSpelled theory (Exit values) = Each (SpellsSome theory) values
HasSpelled theory (At gate values) = Each (SpellsSome theory) values
