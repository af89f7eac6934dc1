-- Which actions are looked for at the parts of a tree of nodes, so that those that are looked for at the whole are found. (This profile.)
use Rattle.std.specs.Prelude.{ℕ, ◌≡◌, ◌++◌, ◌||◌, not, Bool, true, false, if◌then◌else◌, List, [], ◌∷◌, map, filter, Option, Some, None}
use Rattle.spec_core.specs.Code.{Synchronised, every_gate, these_gates}
use Rattle.rule_model.specs.Actions.{Kind, inside, ends, at_gate}
use Rattle.symbolic_rules.specs.MayDerive.{renamed_kind}
use Rattle.decision_trees.specs.Rules.{Query, meeting, any, unseen, beyond, any_beyond, beyond_or_unseen}
use Rattle.symbolic_composites.specs.Kinds.{is_alone, is_joint, is_hidden, is_end, same_kind}
use Rattle.node_trees.specs.Shapes.{Unary, hidden, relabelled, enabled}

-- actions of whatever kind, or of one of these kinds
pub data Sought : Type 0 where
  every_kind : Sought
  these_kinds : List Kind → Sought

-- the kind is one of these
abbrev pub is_one_kind : Kind → List Kind → Bool
is_one_kind k [] = false
is_one_kind k (j ∷ ks) = same_kind k j || is_one_kind k ks

abbrev pub is_sought : Sought → Kind → Bool
is_sought every_kind k = true
is_sought (these_kinds ks) k = is_one_kind k ks

-- an action of some kind is sought
abbrev pub seeks_some : Sought → Bool
seeks_some every_kind = true
seeks_some (these_kinds []) = false
seeks_some (these_kinds (k ∷ ks)) = true

-- The kinds of the actions that a query may ask for, where its offers are at these gates.
module _ {P : Type 0} (gate_of : P → ℕ) where
  abbrev pub sought_for : Query P → Sought
  sought_for (meeting p) = these_kinds (at_gate (gate_of p) ∷ [])
  sought_for any = every_kind
  sought_for unseen = these_kinds (inside ∷ ends ∷ [])
  sought_for (beyond p) = these_kinds (at_gate (gate_of p) ∷ [])
  sought_for any_beyond = every_kind
  sought_for (beyond_or_unseen p) = these_kinds (at_gate (gate_of p) ∷ inside ∷ ends ∷ [])

-- A step from a part of a tree up to the operator over it, by which an action of the part is one of the whole. Under a choice and under a
-- disabling each action stays what it is: there is no step.
--   under one: the part of an operator over one part;
--   by itself: a side of a parallel composition, alone;
--   with another: its left side, together with the right one;
--   as another: its right side, together with an action of this kind of the left one
pub data Step : Type 0 where
  under_one : Unary → Step
  by_itself : Synchronised → Step
  with_another : Synchronised → Step
  as_another : Kind → Step

-- the kind that an action of the part has at the whole, where it is one there
abbrev pub kind_above : Step → Kind → Option Kind
kind_above (under_one (hidden gates)) k = Some (if is_hidden gates k then inside else k)
kind_above (under_one (relabelled pairs)) k = Some (renamed_kind pairs k)
kind_above (under_one (enabled xs right values)) k = Some (if is_end k then inside else k)
kind_above (by_itself gates) k = if is_alone gates k then Some k else None
kind_above (with_another gates) k = if is_joint gates k then Some k else None
kind_above (as_another j) k = if same_kind j k then Some k else None

-- kinds of which those are that may change at the step
abbrev pub changing : Step → List Kind
changing (under_one (hidden gates)) = map at_gate gates
changing (under_one (relabelled pairs)) = map (λ m. at_gate m.from) pairs
changing (under_one (enabled xs right values)) = ends ∷ []
changing (by_itself gates) = []
changing (with_another gates) = []
changing (as_another j) = []

abbrev pub is_one_above : List Kind → Option Kind → Bool
is_one_above ks None = false
is_one_above ks (Some k) = is_one_kind k ks

-- an action of this kind is one of these kinds above the step
abbrev pub becomes_one : Step → List Kind → Kind → Bool
becomes_one step ks k = is_one_above ks (kind_above step k)

-- What is sought below a step, where actions of all kinds are sought above it: all kinds, also such as don't come up, unless few do.

-- what a side of a parallel composition does by itself: internal actions only, where every gate is synchronised
abbrev pub every_alone : Synchronised → Sought
every_alone every_gate = these_kinds (inside ∷ [])
every_alone (these_gates gates) = every_kind

-- what both sides do together: terminations, and actions at the gates that are synchronised
abbrev pub every_joint : Synchronised → Sought
every_joint every_gate = every_kind
every_joint (these_gates gates) = these_kinds (ends ∷ map at_gate gates)

-- beside an action of the left side only its own kind
abbrev pub every_below : Step → Sought
every_below (under_one o) = every_kind
every_below (by_itself gates) = every_alone gates
every_below (with_another gates) = every_joint gates
every_below (as_another j) = these_kinds (j ∷ [])

-- what is sought below the step, so that above it this is found
abbrev pub sought_below : Step → Sought → Sought
sought_below step every_kind = every_below step
sought_below step (these_kinds ks) =
    these_kinds (filter (becomes_one step ks) (ks ++ filter (λ k. not (is_one_kind k ks)) (changing step)))

-- below these steps, of which the first one is the lowest
abbrev pub sought_at : List Step → Sought → Sought
sought_at [] v = v
sought_at (step ∷ steps) v = sought_below step (sought_at steps v)

-- by these steps, of which the first one is the lowest, an action of the first kind is one of the second kind at the whole
abbrev pub ComesUp : List Step → Kind → Kind → Type 0
ComesUp [] k j = k ≡ j
ComesUp (step ∷ steps) k j = (i : Kind) × (kind_above step k ≡ Some i) × ComesUp steps i j
