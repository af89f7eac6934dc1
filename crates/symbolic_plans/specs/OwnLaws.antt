-- What follows from the definitions.
use Rattle.std.specs.Prelude.{ℕ, ◌≡◌}
use Rattle.spec_core.specs.Theories.{Theory}
use Rattle.rule_model.specs.Behaviours.{Behaviour}
use Rattle.rule_model.specs.Substitution.{Assignment, put}
use Rattle.rule_laws.specs.Closing.{IsClosing}
use Rattle.symbolic_rules.specs.Windows.{Windows}
use Rattle.symbolic_rules.specs.MarkedTerms.{MarkedAssignment, plain, unmarked}
use Rattle.symbolic_composites.specs.Evaluations.{Evaluation}
use Rattle.symbolic_composites.specs.Composites.{composites}
use Rattle.symbolic_plans.specs.Laws.{composites_of}
use Rattle.symbolic_plans.specs.OwnPlans.{own_plans}

-- the plans that a behaviour's constructs make are those of its composites
abbrev pub OwnPlansAreThose : Type 0
OwnPlansAreThose =
    (theory : Theory) (e : Evaluation) (w : Windows) (n : ℕ) (m : MarkedAssignment) (b : Behaviour) →
    composites_of theory w (own_plans theory e w n m b) ≡ composites theory e w n m b

-- the plans of a behaviour with terms put in are those of the code with these terms for its variables
abbrev pub OwnPlansOfOrigins : Type 0
OwnPlansOfOrigins =
    (theory : Theory) (e : Evaluation) (w : Windows) (n : ℕ) (s : Assignment) →
    IsClosing s →
    (b : Behaviour) →
    own_plans theory e w n unmarked (put s b) ≡ own_plans theory e w n (λ x. plain (s x)) b
