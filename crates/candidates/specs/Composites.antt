-- What is listed of the composites of a tree of nodes. (This profile.)
use Rattle.std.specs.Prelude.{◌≡◌, List, map}
use Rattle.spec_core.specs.Theories.{Theory}
use Rattle.symbolic_plans.specs.declared.composite.OpenComposite.{OpenComposite}
use Rattle.symbolic_plans.specs.OpenPlans.{open_plan_of}
use Rattle.node_trees.specs.Shapes.{Shape}
use Rattle.candidate_composites.specs.Known.{PlacedPlan, made, placed_plans}
use Rattle.candidates.specs.declared.composites.Composites.{Composites}
use Rattle.candidates.specs.declared.composites.Composites.TheVariants.{Unlisted, Lent, Listed}

-- composites as plans among which there is no gap
abbrev pub without_gaps : List OpenComposite → List PlacedPlan
without_gaps cs = map made (map open_plan_of cs)

-- these are the composites of the tree, in the order of trees of rules, and it has no gap
abbrev pub AreAllOf : Theory → Shape → List OpenComposite → Type 0
AreAllOf theory t cs = without_gaps cs ≡ placed_plans theory t

-- the plans and gaps that are listed, or else others
abbrev pub listed_or : Composites → List PlacedPlan → List PlacedPlan
listed_or Unlisted others = others
listed_or (Lent all) others = without_gaps all.now
listed_or (Listed all) others = without_gaps all.items
