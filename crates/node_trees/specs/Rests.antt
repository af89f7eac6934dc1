-- What an origin can do, and what is left of it then, as an expansion of its node says it.
use Rattle.std.specs.Prelude.{ℕ, ◌≡◌, List, [], ◌∷◌, ◌++◌, map, length, Option, Some, None}
use Rattle.std.specs.List.{slice_get}
use Rattle.spec_core.specs.Code.{Program, Variable, Relabelling, Synchronised, variable_of, relabelling_of, synchronised_of}
use Rattle.spec_core.specs.Numbers.{gate_number}
use Rattle.rule_model.specs.declared.action.Action.{Action}
use Rattle.rule_model.specs.declared.action.Action.TheVariants.{Inner, Exit}
use Rattle.rule_model.specs.declared.rules.Slot.{Slot}
use Rattle.rule_model.specs.declared.rules.Slot.TheVariants.{Of, Mark, Blank}
use Rattle.rule_model.specs.Actions.{doing}
use Rattle.rule_model.specs.Behaviours.{Behaviour, stop, hide, enable, parallel, disable}
use Rattle.rule_model.specs.Derivations.{Derivation, pre, int, exiting, chl, chr, val, gate, guard, letting, parl, parr}
use Rattle.rule_model.specs.Derivations.{both}
use Rattle.rule_model.specs.Derivations.{hiding, pass, enstep, enend, disstep, disend, distake, calling, rel}
use Rattle.rule_model.specs.Derives.{Derives}
use Rattle.rule_model.specs.Substitution.{without, put, tidied}
use Rattle.rule_origins.specs.Parts.{behaviour_at}
use Rattle.rule_origins.specs.Values.{assignment}
use Rattle.symbolic_plans.specs.OpenPlans.{OpenPlan, open_plan_of}
use Rattle.symbolic_plans.specs.Plans.{plan_of}
use Rattle.node_trees.specs.declared.rest.Known.{Known}
use Rattle.node_trees.specs.declared.rest.Known.TheVariants.{Told, Chosen}
use Rattle.node_trees.specs.declared.rest.Deed.{Deed}
use Rattle.node_trees.specs.declared.rest.Deed.TheVariants.{Inner as InnerDeed, Exit as ExitDeed, At as AtDeed}
use Rattle.node_trees.specs.declared.rest.Rest.{Rest}
use Rattle.node_trees.specs.declared.rest.Rest.TheVariants.{Ended, At, Hide', Enable', Relabel', Par', Disable'}
use Rattle.node_trees.specs.declared.expansion.Alternative.{Alternative}
use Rattle.node_trees.specs.declared.expansion.Expansion.{Expansion}
use Rattle.node_trees.specs.Origins.{scoped}
use Rattle.node_trees.specs.Blanks.{blank_tree}

-- the rules of a tree, each before those of its parts, with the number of values that it chooses and the place that it chooses
abbrev pub rows_of : Derivation → List ℕ
rows_of (pre slots) = 0 ∷ length slots ∷ []
rows_of int = 1 ∷ []
rows_of (exiting slots) = 2 ∷ length slots ∷ []
rows_of (chl d) = 3 ∷ rows_of d
rows_of (chr d) = 4 ∷ rows_of d
rows_of (val slot d) = 5 ∷ rows_of d
rows_of (gate place d) = 6 ∷ place ∷ rows_of d
rows_of (guard d) = 7 ∷ rows_of d
rows_of (letting d) = 8 ∷ rows_of d
rows_of (parl d) = 9 ∷ rows_of d
rows_of (parr d) = 10 ∷ rows_of d
rows_of (both d e) = 11 ∷ rows_of d ++ rows_of e
rows_of (hiding d) = 12 ∷ rows_of d
rows_of (pass d) = 13 ∷ rows_of d
rows_of (enstep d) = 14 ∷ rows_of d
rows_of (enend d) = 15 ∷ rows_of d
rows_of (disstep d) = 16 ∷ rows_of d
rows_of (disend d) = 17 ∷ rows_of d
rows_of (distake d) = 18 ∷ rows_of d
rows_of (calling d) = 19 ∷ rows_of d
rows_of (rel d) = 20 ∷ rows_of d

-- the chosen values of a tree, from the left
abbrev pub slots_of : Derivation → List Slot
slots_of (pre slots) = slots
slots_of int = []
slots_of (exiting slots) = slots
slots_of (chl d) = slots_of d
slots_of (chr d) = slots_of d
slots_of (val slot d) = slot ∷ slots_of d
slots_of (gate place d) = slots_of d
slots_of (guard d) = slots_of d
slots_of (letting d) = slots_of d
slots_of (parl d) = slots_of d
slots_of (parr d) = slots_of d
slots_of (both d e) = slots_of d ++ slots_of e
slots_of (hiding d) = slots_of d
slots_of (pass d) = slots_of d
slots_of (enstep d) = slots_of d
slots_of (enend d) = slots_of d
slots_of (disstep d) = slots_of d
slots_of (disend d) = slots_of d
slots_of (distake d) = slots_of d
slots_of (calling d) = slots_of d
slots_of (rel d) = slots_of d

-- each blank is filled with a value, and each value stays
abbrev pub AreFilled : List Slot → List Slot → Type 0
AreFilled [] [] = Unit {0}
AreFilled (Blank ∷ blanks) (Of v ∷ slots) = AreFilled blanks slots
AreFilled (Of v ∷ blanks) (Of w ∷ slots) = (v ≡ w) × AreFilled blanks slots
AreFilled _ _ = ⊥

-- the second tree is the first with values in its blanks
pub record Fills (scheme d : Derivation) : Type 0 where
  pub rows : rows_of scheme ≡ rows_of d
  pub slots : AreFilled (slots_of scheme) (slots_of d)

-- a chosen value; a blank and a mark have none
abbrev pub value_in : Option Slot → List ℕ
value_in None = []
value_in (Some (Of v)) = v
value_in (Some Mark) = []
value_in (Some Blank) = []

-- a value that is told, or the one that is chosen at a place of the list
abbrev pub known_in : List Slot → Known → List ℕ
known_in chosen (Told v) = v
known_in chosen (Chosen k) = value_in (slice_get chosen k)

abbrev pub values_in : List Slot → List (ℕ × Known) → List (ℕ × List ℕ)
values_in chosen [] = []
values_in chosen (b ∷ values) = (b.0, known_in chosen b.1) ∷ values_in chosen values

-- an action whose values are told or chosen
pub data Does : Type 0 where
  does_inner : Does
  does_exit : List Known → Does
  does_at : ℕ → List Known → Does

abbrev pub does_of : Deed → Does
does_of InnerDeed = does_inner
does_of (ExitDeed values) = does_exit values.items
does_of (AtDeed g values) = does_at g.0 values.items

abbrev pub done_in : List Slot → Does → Action
done_in chosen does_inner = Inner
done_in chosen (does_exit values) = Exit (map (known_in chosen) values)
done_in chosen (does_at g values) = doing g (map (known_in chosen) values)

-- what is left: `stop`, or operators over numbers of the code with values that are told or chosen
pub data Remainder : Type 0 where
  none_left : Remainder
  left_at : ℕ → List (ℕ × Known) → Remainder
  left_hidden : List ℕ → Remainder → Remainder
  left_enabling : Remainder → List Variable → ℕ → List (ℕ × Known) → Remainder
  left_relabelled : List Relabelling → Remainder → Remainder
  left_beside : Synchronised → Remainder → Remainder → Remainder
  left_disabling : Remainder → Remainder → Remainder

abbrev pub remainder_of : Rest → Remainder
remainder_of Ended = none_left
remainder_of (At node values) = left_at node values.items
remainder_of (Hide' gates p rest) = left_hidden (map gate_number gates.items) (remainder_of rest)
remainder_of (Enable' p rest vars right values) = left_enabling (remainder_of rest) (map variable_of vars.items) right values.items
remainder_of (Relabel' pairs p rest) = left_relabelled (map relabelling_of pairs.items) (remainder_of rest)
remainder_of (Par' gates p left q right) = left_beside (synchronised_of gates) (remainder_of left) (remainder_of right)
remainder_of (Disable' p left q right) = left_disabling (remainder_of left) (remainder_of right)

-- the behaviour that is left, where these values are chosen
abbrev pub left_in : Program → List Slot → Remainder → Behaviour
left_in program chosen none_left = stop
left_in program chosen (left_at node values) = scoped program node (values_in chosen values)
left_in program chosen (left_hidden gates r) = hide gates (left_in program chosen r)
left_in program chosen (left_enabling r xs right values) =
    enable (left_in program chosen r) xs
    (put (without xs (assignment program.theory (values_in chosen values))) (behaviour_at program right))
left_in program chosen (left_relabelled pairs r) = tidied pairs (left_in program chosen r)
left_in program chosen (left_beside gates r q) = parallel gates (left_in program chosen r) (left_in program chosen q)
left_in program chosen (left_disabling r q) = disable (left_in program chosen r) (left_in program chosen q)

-- one way to act: a tree with blanks for what is chosen, its action and what is left then
pub record Way : Type 0 where
  pub rules : Derivation
  pub action : Does
  pub rest : Remainder

abbrev pub way_of : Alternative → Way
way_of a = record { rules = blank_tree (plan_of a.scheme); action = does_of a.action; rest = remainder_of a.rest }

-- what an origin can do: the plans of its composites, in order, and the ways to act
pub record Work : Type 0 where
  pub plans : List OpenPlan
  pub ways : List Way

abbrev pub expansion_of : Expansion → Work
expansion_of e = record { plans = map open_plan_of e.composites.items; ways = map way_of e.alternatives.items }

-- what the behaviour does by a tree that fills this one is its action, and what it becomes is what is left
abbrev pub IsWayOf : Program → Behaviour → Way → Type 0
IsWayOf program b way =
    (d : Derivation) (a : Action) (c : Behaviour) → Fills way.rules d → Derives program b d a c →
    (a ≡ done_in (slots_of d) way.action) × (c ≡ left_in program (slots_of d) way.rest)
