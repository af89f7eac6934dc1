-- What a walk along the trees of parts has ahead. (This profile.)
use Rattle.std.specs.Prelude.{◌++◌, List, [], map, Option, Some, None}
use Rattle.spec_core.specs.Theories.{Theory, theory_of}
use Rattle.rule_model.specs.declared.offer.Offer.{Offer}
use Rattle.rule_model.specs.Derivations.{Derivation, derivation_of}
use Rattle.symbolic_rules.specs.Windows.{Windows}
use Rattle.symbolic_rules.specs.Tables.{windows_in}
use Rattle.decision_trees.specs.Gaps.{OrGap, element, gap}
use Rattle.decision_trees.specs.Rules.{Query}
use Rattle.symbolic_plans.specs.OpenPlans.{open_plan_of}
use Rattle.symbolic_trees.specs.Numbers.{trees_at_once}
use Rattle.candidate_search.specs.Searches.{is_wanted, wanted_from, query_of}
use Rattle.candidate_composites.specs.Known.{placed_of}
use Rattle.candidates.specs.Composites.{without_gaps}
use Rattle.candidates.specs.Listed.{trees_sought}
use Rattle.candidates.specs.declared.walk.TreesLeft.{TreesLeft}
use Rattle.candidates.specs.declared.walk.Met.{Met}
use Rattle.candidates.specs.declared.walk.Met.TheVariants.{Gap, Tree}
use Rattle.candidates.specs.declared.walk.Walk.{Walk}

-- a tree, or the generation of a node that isn't expanded
abbrev pub met_of : Met → OrGap Derivation
met_of (Gap generation) = gap generation.0
met_of (Tree rules) = element (derivation_of rules)

module _ (theory : Theory) (w : Windows) (q : Query Offer) where
  -- the trees that are left of a composite
  abbrev pub trees_left : Option TreesLeft → List Derivation
  trees_left None = []
  trees_left (Some c) =
      wanted_from (is_wanted q)
      (trees_at_once theory w (open_plan_of c.composite.now).fields (open_plan_of c.composite.now).plan c.choices.items) c.number

-- what is in the composites and the parts behind the composite where the walk stands
abbrev pub behind : Walk → List (OrGap Derivation)
behind s =
    trees_sought (theory_of s.algebra.now) (windows_in s.windows.now) (query_of s.search)
    (without_gaps s.composites.now ++ map placed_of s.parts.now)

-- what is left of the composite where the walk stands, and then what is behind it
abbrev pub ahead : Walk → List (OrGap Derivation)
ahead s =
    map element (trees_left (theory_of s.algebra.now) (windows_in s.windows.now) (query_of s.search) s.current) ++ behind s
