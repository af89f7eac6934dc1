-- Which actions of a side of a parallel composition may come up, by what the other side can do. (This profile.)
use Rattle.std.specs.Prelude.{◌||◌, Bool, true, false, if◌then◌else◌, List, [], ◌∷◌, map}
use Rattle.spec_core.specs.Code.{Synchronised, synchronised_of}
use Rattle.rule_model.specs.Actions.{Kind}
use Rattle.symbolic_composites.specs.Kinds.{is_alone, same_kind}
use Rattle.node_trees.specs.Shapes.{Binary, choosing, beside, disabling}
use Rattle.candidate_composites.specs.Known.{PlacedPlan, made, awaited, found_of}
use Rattle.candidate_composites.specs.declared.joining.Joining.{Joining}
use Rattle.candidate_composites.specs.declared.joining.Joining.TheVariants.{Free, Beside}

-- it is a plan of this kind, or a gap, from which one of this kind may come
abbrev pub may_be_of : Kind → PlacedPlan → Bool
may_be_of k (made p) = same_kind p.kind k
may_be_of k (awaited g steps) = true

-- one of these may be of this kind
abbrev pub is_offered : Kind → List PlacedPlan → Bool
is_offered k [] = false
is_offered k (p ∷ ps) = may_be_of k p || is_offered k ps

-- actions of whatever kind; or, on the right side of a parallel composition, those that it does alone, and those that the left side, which
-- has these plans and gaps, may do as well
pub data Joins : Type 0 where
  free : Joins
  beside_those : Synchronised → List PlacedPlan → Joins

abbrev pub lets : Joins → Kind → Bool
lets free k = true
lets (beside_those gates left) k = is_alone gates k || is_offered k left

-- on the right side of an operator, where its left side has these; above it, as is said
abbrev pub right_of : Bool → Binary → List PlacedPlan → Joins → Joins
right_of prunes choosing left above = above
right_of prunes (beside gates) left above = if prunes then beside_those gates left else above
right_of prunes disabling left above = above

abbrev pub joining_of : Joining → Joins
joining_of Free = free
joining_of (Beside gates left) = beside_those (synchronised_of gates.now) (map found_of left.now)
