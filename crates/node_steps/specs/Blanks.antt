-- Trees of rules whose chosen values are left open, and how many values they choose.
use Rattle.std.specs.Prelude.{ℕ, ◌≡◌, ◌+◌, List, length}
use Rattle.spec_core.specs.Code.{Program}
use Rattle.spec_core.specs.Lists.{IsOneOf}
use Rattle.rule_model.specs.declared.action.Action.{Action}
use Rattle.rule_model.specs.declared.rules.Slot.{Slot}
use Rattle.rule_model.specs.declared.rules.Slot.TheVariants.{Of, Mark, Blank}
use Rattle.rule_model.specs.Behaviours.{Behaviour}
use Rattle.rule_model.specs.Derivations.{Derivation, pre, int, exiting, both, hiding, enend}
use Rattle.rule_model.specs.Derives.{Derives}
use Rattle.symbolic_rules.specs.Windows.{Windows}
use Rattle.symbolic_plans.specs.declared.scheme.Row.{Row}
use Rattle.symbolic_plans.specs.declared.scheme.Row.TheVariants.{Val}
use Rattle.symbolic_plans.specs.Plans.{Plan, prefix, internal, termination, below, hidden, handed_on, together, put_row, trees_of}
pub use Rattle.node_trees.specs.Blanks.{blanks, blank_tree, chosen_by}

-- how many values a tree of the plan chooses
abbrev pub width : Plan → ℕ
width (prefix takes) = length (blanks takes)
width internal = 0
width (termination takes) = length (blanks takes)
width (below row p) = length (chosen_by row) + width p
width (hidden fields p) = width p
width (handed_on fields p) = width p
width (together p q) = width p + width q

-- the tree has the rules of the plan, and as many chosen values, whichever they are
abbrev pub IsTreeOf : Plan → Derivation → Type 0
IsTreeOf (prefix takes) d = (slots : List Slot) × (d ≡ pre slots) × (length slots ≡ length (blanks takes))
IsTreeOf internal d = d ≡ int
IsTreeOf (termination takes) d = (slots : List Slot) × (d ≡ exiting slots) × (length slots ≡ length (blanks takes))
IsTreeOf (below row p) d = (e : Derivation) × (d ≡ put_row row e) × IsTreeOf p e
IsTreeOf (hidden fields p) d = (e : Derivation) × (d ≡ hiding e) × IsTreeOf p e
IsTreeOf (handed_on fields p) d = (e : Derivation) × (d ≡ enend e) × IsTreeOf p e
IsTreeOf (together p q) d = (e f : Derivation) × (d ≡ both e f) × IsTreeOf p e × IsTreeOf q f

-- a choice of a value has its value
abbrev pub HasValue : Row → Type 0
HasValue (Val (Of v)) = Unit {0}
HasValue (Val Mark) = ⊥
HasValue (Val Blank) = ⊥
HasValue _ = Unit {0}

-- each choice of a value in the plan has its value
abbrev pub IsClosed : Plan → Type 0
IsClosed (prefix takes) = Unit {0}
IsClosed internal = Unit {0}
IsClosed (termination takes) = Unit {0}
IsClosed (below row p) = HasValue row × IsClosed p
IsClosed (hidden fields p) = IsClosed p
IsClosed (handed_on fields p) = IsClosed p
IsClosed (together p q) = IsClosed p × IsClosed q

-- by no tree of the plan, whichever values may be chosen, does the behaviour do anything
abbrev pub DoesNothingBy : Program → Behaviour → Plan → Type 0
DoesNothingBy program b p =
    (w : Windows) (slots : List (List Slot)) (d : Derivation) (a : Action) (c : Behaviour) → IsOneOf d (trees_of program.theory w p slots) →
    Derives program b d a c → ⊥
