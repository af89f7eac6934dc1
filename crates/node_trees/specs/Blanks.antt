-- Trees of rules with blanks in the places of the values that are left open.
use Rattle.std.specs.Prelude.{ℕ, List, [], ◌∷◌, Bool, true, false}
use Rattle.rule_model.specs.declared.rules.Slot.{Slot}
use Rattle.rule_model.specs.declared.rules.Slot.TheVariants.{Blank}
use Rattle.rule_model.specs.Derivations.{Derivation, pre, int, exiting, both, hiding, enend}
use Rattle.symbolic_plans.specs.declared.scheme.Row.{Row}
use Rattle.symbolic_plans.specs.declared.scheme.Row.TheVariants.{Chl, Chr, Val, Gate, Guard, Let, Parl, Parr, Pass, Enstep, Disstep}
use Rattle.symbolic_plans.specs.declared.scheme.Row.TheVariants.{Disend, Distake, Call, Rel}
use Rattle.symbolic_plans.specs.Plans.{Plan, prefix, internal, termination, below, hidden, handed_on, together, put_row}

-- a blank for each field that takes a value
abbrev pub blanks : List Bool → List Slot
blanks [] = []
blanks (true ∷ takes) = Blank ∷ blanks takes
blanks (false ∷ takes) = blanks takes

-- the tree of a plan, with a blank in the place of each open value
abbrev pub blank_tree : Plan → Derivation
blank_tree (prefix takes) = pre (blanks takes)
blank_tree internal = int
blank_tree (termination takes) = exiting (blanks takes)
blank_tree (below row p) = put_row row (blank_tree p)
blank_tree (hidden fields p) = hiding (blank_tree p)
blank_tree (handed_on fields p) = enend (blank_tree p)
blank_tree (together p q) = both (blank_tree p) (blank_tree q)

-- what a rule itself is in the list of the rules of a tree, with the place that it chooses, if it is a choice of a gate
abbrev pub own_rows : Row → List ℕ
own_rows Chl = 3 ∷ []
own_rows Chr = 4 ∷ []
own_rows (Val slot) = 5 ∷ []
own_rows (Gate place) = 6 ∷ place ∷ []
own_rows Guard = 7 ∷ []
own_rows Let = 8 ∷ []
own_rows Parl = 9 ∷ []
own_rows Parr = 10 ∷ []
own_rows Pass = 13 ∷ []
own_rows Enstep = 14 ∷ []
own_rows Disstep = 16 ∷ []
own_rows Disend = 17 ∷ []
own_rows Distake = 18 ∷ []
own_rows Call = 19 ∷ []
own_rows Rel = 20 ∷ []

-- the value that a rule itself chooses, if it is a choice of a value
abbrev pub chosen_by : Row → List Slot
chosen_by (Val slot) = slot ∷ []
chosen_by _ = []
