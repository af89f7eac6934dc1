-- What follows from the definitions.
use Rattle.std.specs.Prelude.{◌≡◌, ◌≤◌, List, length, Some}
use Rattle.spec_core.specs.Code.{Program}
use Rattle.symbolic_rules.specs.Windows.{Windows}
use Rattle.symbolic_rules.specs.MarkedTerms.{unmarked}
use Rattle.symbolic_composites.specs.Evaluations.{Evaluation}
use Rattle.symbolic_plans.specs.OwnPlans.{own_plans}
use Rattle.node_trees.specs.Origins.{meaning}
use Rattle.node_trees.specs.Rests.{Work}
use Rattle.node_trees.specs.Shapes.{Above, Held, Shape, Stands, stands_for}
use Rattle.candidate_count.specs.Counts.{offers, offers_of_tree}

-- the plans of each expanded node are those that its origin's constructs make
abbrev pub AreOwnPlans : Program → Evaluation → Windows → Shape → Type 0
AreOwnPlans program e w t = (up : List Above) (n : Held) → Stands t up n → (x : Work) → n.work ≡ Some x →
    x.plans ≡ own_plans program.theory e w (length program.code) unmarked (meaning program n.source)

-- then the tree has no more possible agreements than the behaviour for which it stands
abbrev pub TreesHaveNoMoreOffers : Type 0
TreesHaveNoMoreOffers =
    (program : Program) (e : Evaluation) (w : Windows) (t : Shape) → AreOwnPlans program e w t →
    offers_of_tree program w t ≤ offers program e w (stands_for program t)
