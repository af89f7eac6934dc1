-- What is known of trees of rules at nodes, and what it says of a tree of rules over a tree of nodes. (This profile.)
use Rattle.std.specs.Prelude.{ℕ, List, [], ◌++◌, Option, Some, None, option_map, option_and_then}
use Rattle.spec_core.specs.Theories.{Theory}
use Rattle.spec_core.specs.Code.{Synchronised}
use Rattle.rule_model.specs.Derivations.{Derivation}
use Rattle.symbolic_rules.specs.Windows.{Windows}
use Rattle.decision_trees.specs.Known.{unless_known}
use Rattle.symbolic_actions.specs.Shows.{Show, PartRule, over_part, over_both}
use Rattle.node_trees.specs.Shapes.{Shape, leaf, ended, over, between}
use Rattle.candidate_verdicts.specs.Parts.{RuledPart, part_under, Sides, neither, left_side, right_side, both_sides, sides_under}

-- What is known of what is shown by a tree of rules: nothing (None); that nothing is shown (Some None); or that this is shown.
abbrev pub KnownShow : Type 0
KnownShow = Option (Option Show)

-- What is known of each tree of rules at the node of each generation.
abbrev pub Pieces : Type 0
Pieces = ℕ → Derivation → KnownShow

module _ (theory : Theory) (w : Windows) where
  -- what is known of the whole by a rule over a part, from what is known of the part
  abbrev pub known_over : PartRule → KnownShow → KnownShow
  known_over r o = option_map (λ s. option_and_then (over_part theory w r) s) o

  -- The same by the rule for both sides of a parallel composition. Where one side is known to show nothing, the whole shows nothing,
  -- whatever the other side shows.
  abbrev pub known_together : Synchronised → KnownShow → KnownShow → KnownShow
  known_together gates (Some None) p = Some None
  known_together gates None (Some None) = Some None
  known_together gates (Some (Some s)) (Some None) = Some None
  known_together gates (Some (Some s)) (Some (Some t)) = Some (over_both theory gates s t)
  known_together gates None None = None
  known_together gates None (Some (Some t)) = None
  known_together gates (Some (Some s)) None = None

  -- what is known of an operator over one part; nothing is shown where the rule isn't about it
  abbrev pub known_under : Option RuledPart → (Derivation → KnownShow) → KnownShow
  known_under None part = Some None
  known_under (Some p) part = known_over p.rule (part p.rules)

  -- what is known of an operator over two parts
  abbrev pub known_between : Sides → (Derivation → KnownShow) → (Derivation → KnownShow) → KnownShow
  known_between neither left right = Some None
  known_between (left_side p) left right = known_over p.rule (left p.rules)
  known_between (right_side p) left right = known_over p.rule (right p.rules)
  known_between (both_sides gates d e) left right = known_together gates (left d) (right e)

  -- What is known of what a tree of nodes shows by a tree of rules, from what is known of its nodes. What is over shows nothing.
  abbrev pub known_show : Pieces → Shape → Derivation → KnownShow
  known_show pieces (leaf n) d = pieces n.generation d
  known_show pieces ended d = Some None
  known_show pieces (over o x) d = known_under (part_under o d) (λ e. known_show pieces x e)
  known_show pieces (between o x y) d = known_between (sides_under o d) (λ e. known_show pieces x e) (λ e. known_show pieces y e)

-- a part of a tree of rules, with the generation of the node where it stands
pub record NodePart : Type 0 where
  pub generation : ℕ
  pub rules : Derivation

abbrev pub node_part : ℕ → Derivation → NodePart
node_part g d = record { generation = g; rules = d }

-- the parts of an operator over one part, and of one over two

abbrev pub parts_under : Option RuledPart → (Derivation → List NodePart) → List NodePart
parts_under None part = []
parts_under (Some p) part = part p.rules

abbrev pub parts_between : Sides → (Derivation → List NodePart) → (Derivation → List NodePart) → List NodePart
parts_between neither left right = []
parts_between (left_side p) left right = left p.rules
parts_between (right_side p) left right = right p.rules
parts_between (both_sides gates d e) left right = left d ++ right e

-- the parts of a tree of rules at nodes of which nothing is known, from the left
abbrev pub missing_parts : Pieces → Shape → Derivation → List NodePart
missing_parts pieces (leaf n) d = unless_known (pieces n.generation d) (node_part n.generation d) []
missing_parts pieces ended d = []
missing_parts pieces (over o x) d = parts_under (part_under o d) (λ e. missing_parts pieces x e)
missing_parts pieces (between o x y) d =
    parts_between (sides_under o d) (λ e. missing_parts pieces x e) (λ e. missing_parts pieces y e)
