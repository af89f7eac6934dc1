-- What the operators above a part of a tree make of its plans.
use Rattle.std.specs.Prelude.{ℕ, zero, suc, ◌||◌, ◌++◌, Bool, true, false, if◌then◌else◌, List, [], ◌∷◌, map, flat_map}
use Rattle.std.specs.Fn.{iterate}
use Rattle.spec_core.specs.Code.{Synchronised, synchronised_of}
use Rattle.rule_model.specs.Actions.{Kind}
use Rattle.symbolic_composites.specs.Kinds.{is_alone, is_end, is_joint}
use Rattle.symbolic_plans.specs.declared.scheme.Row.{Row}
use Rattle.symbolic_plans.specs.declared.scheme.Row.TheVariants.{Chl, Chr, Parl, Parr, Disstep, Disend, Distake}
use Rattle.symbolic_plans.specs.OpenPlans.{OpenPlan, under_row, plans_alone, plan_by_disabling}
use Rattle.node_trees.specs.Shapes.{Unary, unary_of}
use Rattle.candidate_laws.specs.Sought.{Step, by_itself}
use Rattle.candidate_composites.specs.Known.{PlacedPlan, made, awaited, stepped, turned_there, placed_over_one, under_run}
use Rattle.candidate_composites.specs.declared.context.Turn as code
use Rattle.candidate_composites.specs.declared.context.Turn.TheVariants.{First, Second, Disabled, Disabling, Left, Right}
use Rattle.candidate_composites.specs.declared.context.Context.{Context}
use Rattle.candidate_composites.specs.declared.context.Context.TheVariants.{Whole, Over', Under'}

-- What one operator makes of the plans of a part: it puts a rule over each, as a choice and the right side of a disabling do; what a
-- disabling makes of its left side; what a side of a parallel composition does alone; and what an operator over one part does.
pub data Turn : Type 0 where
  below_row : Row → Turn
  disabled : Turn
  alone_by : Synchronised → Row → Turn
  over_by : Unary → Turn

abbrev pub turned_by : Turn → PlacedPlan → List PlacedPlan
turned_by (below_row row) x = turned_there (under_row row) x ∷ []
turned_by disabled x = turned_there plan_by_disabling x ∷ []
turned_by (alone_by gates row) x = stepped (by_itself gates) (λ p. map made (plans_alone gates row p)) x
turned_by (over_by o) x = placed_over_one o x ∷ []

-- what is left of a plan or a gap above all of these, of which the first one is the lowest
abbrev pub through : List Turn → PlacedPlan → List PlacedPlan
through [] x = x ∷ []
through (t ∷ ts) x = flat_map (through ts) (turned_by t x)

-- of a list of plans and gaps
abbrev pub all_through : List Turn → List PlacedPlan → List PlacedPlan
all_through ts ps = flat_map (through ts) ps

-- one operator, as many more over it that do the same, and those above them
abbrev pub repeated : Turn → ℕ → List Turn → List Turn
repeated t zero ts = t ∷ ts
repeated t (suc more) ts = t ∷ repeated t more ts

-- What such a run makes of a plan or a gap at once (proofs/Runs).

-- the rule that a disabling puts over a plan of its left side whose action is of this kind
abbrev pub row_of_disabling : Kind → Row
row_of_disabling k = if is_end k then Disend else Disstep

-- what like sides of parallel compositions do alone
abbrev pub run_alone : Synchronised → Row → ℕ → OpenPlan → List OpenPlan
run_alone gates row more p = if is_alone gates p.kind then under_run row more p ∷ [] else []

-- steps, and the same step once and so many times more behind them
abbrev pub down_by : Step → ℕ → List Step → List Step
down_by step more steps = iterate (λ l. l ++ step ∷ []) more (steps ++ step ∷ [])

-- one of these may be what both sides of a parallel composition do together
abbrev pub some_joint : Synchronised → List PlacedPlan → Bool
some_joint gates [] = false
some_joint gates (made p ∷ ps) = is_joint gates p.kind || some_joint gates ps
some_joint gates (awaited g steps ∷ ps) = true

-- what values of the program stand for

abbrev pub turn_of : code.Turn → Turn
turn_of First = below_row Chl
turn_of Second = below_row Chr
turn_of Disabled = disabled
turn_of Disabling = below_row Distake
turn_of (Left gates) = alone_by (synchronised_of gates.now) Parl
turn_of (Right gates) = alone_by (synchronised_of gates.now) Parr

abbrev pub turns_of : Context → List Turn
turns_of Whole = []
turns_of (Over' o p above) = over_by (unary_of o.now) ∷ turns_of above
turns_of (Under' turn more p above) = repeated (turn_of turn) more (turns_of above)
