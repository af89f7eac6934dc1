-- How trees of rules go down the operators of a tree of nodes. (This profile.)
use Rattle.std.specs.Prelude.{Option, Some, None}
use Rattle.spec_core.specs.Code.{Synchronised}
use Rattle.rule_model.specs.Derivations.{Derivation, chl, chr, parl, parr, both, hiding, pass, enstep, enend, disstep, disend, distake, rel}
use Rattle.symbolic_actions.specs.Shows as shows
use Rattle.symbolic_actions.specs.Shows.{PartRule, of_left, of_right, left_alone, right_alone, hidden_in, seen_in, before_end, handed_to}
use Rattle.symbolic_actions.specs.Shows.{undisabled, renamed_by}
use Rattle.node_trees.specs.Shapes.{Unary, hidden, relabelled, enabled, Binary, choosing, beside, disabling}

-- a rule over one part of an operator, and the tree of rules of that part
pub record RuledPart : Type 0 where
  pub rule : PartRule
  pub rules : Derivation

abbrev pub ruled : PartRule → Derivation → RuledPart
ruled r d = record { rule = r; rules = d }

-- the rule of the tree over the part of an operator; none where the tree's rule isn't about this operator
abbrev pub part_under : Unary → Derivation → Option RuledPart
part_under (hidden gates) (hiding d) = Some (ruled (hidden_in gates) d)
part_under (hidden gates) (pass d) = Some (ruled (seen_in gates) d)
part_under (relabelled pairs) (rel d) = Some (ruled (renamed_by pairs) d)
part_under (enabled xs right values) (enstep d) = Some (ruled before_end d)
part_under (enabled xs right values) (enend d) = Some (ruled (handed_to xs) d)
part_under _ _ = None

-- which sides of an operator act by a tree: neither, where the tree's rule isn't about this operator; the left or the right one, by a rule
-- over it; or both together, by their trees
pub data Sides : Type 0 where
  neither : Sides
  left_side : RuledPart → Sides
  right_side : RuledPart → Sides
  both_sides : Synchronised → Derivation → Derivation → Sides

abbrev pub sides_under : Binary → Derivation → Sides
sides_under choosing (chl d) = left_side (ruled of_left d)
sides_under choosing (chr d) = right_side (ruled of_right d)
sides_under (beside gates) (parl d) = left_side (ruled (left_alone gates) d)
sides_under (beside gates) (parr d) = right_side (ruled (right_alone gates) d)
sides_under (beside gates) (both d e) = both_sides gates d e
sides_under disabling (disstep d) = left_side (ruled undisabled d)
sides_under disabling (disend d) = left_side (ruled shows.ended d)
sides_under disabling (distake d) = right_side (ruled shows.disabling d)
sides_under _ _ = neither
