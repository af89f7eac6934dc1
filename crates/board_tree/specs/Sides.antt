-- Sides of operators, and what rules leave of operators.
use Rattle.std.specs.Prelude.{Bool, true, false}
use Rattle.rule_model.specs.declared.action.Action.{Action}
use Rattle.rule_model.specs.declared.action.Action.TheVariants.{Inner}
use Rattle.rule_model.specs.Derivations.{Derivation, chl, chr, parl, parr, hiding, pass, disend, distake}
use Rattle.node_trees.specs.Shapes.{Shape, between, Binary, choosing, disabling}
use Rattle.board_tree.specs.declared.side.Side.{Side}
use Rattle.board_tree.specs.declared.side.Side.TheVariants.{Left, Right}
use Rattle.board_tree.specs.declared.side.Taking.{Taking}
use Rattle.board_tree.specs.declared.side.Taking.TheVariants.{ChoiceLeft, ChoiceRight, DisablingEnd, DisablingTaken}

-- an operator over a part on this side and the other part
abbrev pub joined_at : Side → Binary → Shape → Shape → Shape
joined_at Left o x y = between o x y
joined_at Right o x y = between o y x

-- the rule by which a parallel composition acts where this side acts alone
abbrev pub alone_at : Side → Derivation → Derivation
alone_at Left d = parl d
alone_at Right d = parr d

-- the operator of which the part is left, and the other one lost
abbrev pub taken_from : Taking → Shape → Shape → Shape
taken_from ChoiceLeft x y = between choosing x y
taken_from ChoiceRight x y = between choosing y x
taken_from DisablingEnd x y = between disabling x y
taken_from DisablingTaken x y = between disabling y x

abbrev pub taken_by : Taking → Derivation → Derivation
taken_by ChoiceLeft d = chl d
taken_by ChoiceRight d = chr d
taken_by DisablingEnd d = disend d
taken_by DisablingTaken d = distake d

-- the rule of a hiding whose part acts at a hidden gate, or does anything else; and what the hiding does then
abbrev pub hidden_by : Bool → Derivation → Derivation
hidden_by true d = hiding d
hidden_by false d = pass d

abbrev pub hidden_action : Bool → Action → Action
hidden_action true a = Inner
hidden_action false a = a
