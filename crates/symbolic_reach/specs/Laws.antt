-- What follows from the definitions.
use Rattle.std.specs.Prelude.{ℕ, ◌≡◌, ◌↔◌, List}
use Rattle.spec_core.specs.Terms.{TermTree}
use Rattle.spec_core.specs.Theories.{Theory}
use Rattle.spec_core.specs.Code.{Program}
use Rattle.rule_model.specs.Behaviours.{Behaviour}
use Rattle.rule_model.specs.Substitution.{Assignment, put}
use Rattle.rule_laws.specs.Closing.{IsClosing}
use Rattle.symbolic_rules.specs.Windows.{Windows}
use Rattle.symbolic_rules.specs.MarkedTerms.{plain, unmarked}
use Rattle.symbolic_composites.specs.Evaluations.{Evaluation}
use Rattle.symbolic_reach.specs.Reached.{Reaches}
use Rattle.symbolic_reach.specs.Spread.{spread}

-- what is reached of a behaviour with terms put in is what is reached of the code with these terms for its variables
abbrev pub ReachedOfOrigins : Type 0
ReachedOfOrigins =
    (program : Program) (w : Windows) (others : List (List ℕ)) (s : Assignment) →
    IsClosing s →
    (b : Behaviour) (t : TermTree) →
    Reaches program w others unmarked (put s b) t ↔ Reaches program w others (λ x. plain (s x)) b t

-- and the spread is the same
abbrev pub SpreadOfOrigins : Type 0
SpreadOfOrigins =
    (theory : Theory) (e : Evaluation) (w : Windows) (n : ℕ) (s : Assignment) →
    IsClosing s →
    (b : Behaviour) →
    spread theory e w n unmarked (put s b) ≡ spread theory e w n (λ x. plain (s x)) b
