-- What follows from the definitions.
use Rattle.std.specs.Prelude.{◌≡◌}
use Rattle.spec_core.specs.Theories.{Theory}
use Rattle.symbolic_rules.specs.Windows.{Windows}
use Rattle.symbolic_plans.specs.OpenPlans.{OpenPlan, composite_of}
use Rattle.candidate_laws.specs.Asked.{TreeQuery}
use Rattle.candidate_laws.specs.Waiting.{trees_asked}
use Rattle.candidate_search.specs.Searches.{for_offer, asked_from}

-- what a search finds from the first number on are the trees of the composite that the query may ask for
abbrev pub SearchesFindAll : Type 0
SearchesFindAll =
    (theory : Theory) (w : Windows) (q : TreeQuery) (p : OpenPlan) →
    asked_from theory w (for_offer q) p 0 ≡ trees_asked theory w q (composite_of theory w p)
