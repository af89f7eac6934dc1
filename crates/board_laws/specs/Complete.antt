-- What is known of the nodes of a tree that are expanded, and trees that searches find.
use Rattle.std.specs.Prelude.{◌≡◌, List, length, Some}
use Rattle.spec_core.specs.Lists.{Each, IsOneOf}
use Rattle.spec_core.specs.Theories.{Theory}
use Rattle.spec_core.specs.Code.{Program}
use Rattle.rule_model.specs.Derivations.{Derivation}
use Rattle.symbolic_rules.specs.Windows.{Windows}
use Rattle.symbolic_rules.specs.MarkedTerms.{unmarked}
use Rattle.decision_trees.specs.Rules.{meeting, any, unseen, beyond, any_beyond, beyond_or_unseen}
use Rattle.decision_trees.specs.Gaps.{element}
use Rattle.symbolic_composites.specs.Evaluations.{Evaluation, IsExact}
use Rattle.symbolic_plans.specs.OwnPlans.{own_plans}
use Rattle.candidate_laws.specs.Asked.{TreeQuery}
use Rattle.node_trees.specs.Origins.{Source, meaning}
use Rattle.node_trees.specs.Rests.{Work}
use Rattle.node_trees.specs.Shapes.{Above, Held, Shape, Stands}
use Rattle.node_work.specs.Ways.{HasWays}
use Rattle.candidates.specs.Listed.{known_trees}

-- P holds of the origin and the work of each node that is expanded
abbrev pub EachExpanded : (Source → Work → Type 0) → Shape → Type 0
EachExpanded P t = (up : List Above) (n : Held) → Stands t up n → (x : Work) → n.work ≡ Some x → P n.source x

-- the work has ways for the trees of its plans, as far as the origin does something by them
abbrev pub IsComplete : Program → Source → Work → Type 0
IsComplete program o x = Each (HasWays program (meaning program o) x.ways) x.plans

-- the work has the plans that the origin's constructs make, whichever exact answers these are made with
abbrev pub HasItsPlans : Program → Windows → Source → Work → Type 0
HasItsPlans program w o x =
    (e : Evaluation) → IsExact program e → x.plans ≡ own_plans program.theory e w (length program.code) unmarked (meaning program o)

-- each node that is expanded has ways for the trees of its plans
abbrev pub AreComplete : Program → Shape → Type 0
AreComplete program t = EachExpanded (IsComplete program) t

-- each node that is expanded has the plans that its origin's constructs make
abbrev pub AreExpansions : Program → Windows → Shape → Type 0
AreExpansions program w t = EachExpanded (HasItsPlans program w) t

-- the query asks for trees without marks
abbrev pub AsksUnmarked : TreeQuery → Type 0
AsksUnmarked (meeting p) = Unit {0}
AsksUnmarked any = Unit {0}
AsksUnmarked unseen = Unit {0}
AsksUnmarked (beyond p) = ⊥
AsksUnmarked any_beyond = ⊥
AsksUnmarked (beyond_or_unseen p) = ⊥

-- the tree is one of those among which searches for the query look
abbrev pub IsSearched : Theory → Windows → Shape → TreeQuery → Derivation → Type 0
IsSearched theory w t q d = IsOneOf (element d) (known_trees theory w t q)
