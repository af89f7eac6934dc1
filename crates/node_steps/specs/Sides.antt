-- Walks that begin below the sides of choices.
use Rattle.std.specs.Prelude.{ℕ, ◌≡◌, Option}
use Rattle.spec_core.specs.Terms.{TermTree}
use Rattle.spec_core.specs.Code.{Program}
use Rattle.rule_model.specs.Behaviours.{Behaviour}
use Rattle.rule_model.specs.Constructs.{OnChoice}
use Rattle.rule_model.specs.Substitution.{Assignment}
use Rattle.symbolic_plans.specs.declared.scheme.Row.{Row}
use Rattle.symbolic_plans.specs.declared.scheme.Row.TheVariants.{Chl, Chr}
use Rattle.symbolic_plans.specs.Plans.{Plan}
use Rattle.symbolic_reach.specs.Asking.{PlanAsks}
use Rattle.node_steps.specs.declared.turn.Turn.{Turn}
use Rattle.node_steps.specs.Turns.{TurnsOr}

-- the second behaviour is the side of the first, a choice, that the rule is over
abbrev pub IsSide : Row → Behaviour → Behaviour → Type 0
IsSide Chl b c = OnChoice b (λ left right. c ≡ left)
IsSide Chr b c = OnChoice b (λ left right. c ≡ right)
IsSide _ b c = ⊥

module _ (program : Program) (b : Behaviour) (p : Plan) (c : Behaviour) (q : Plan) where
  -- what comes of c by the trees of q is what comes of b by those of p, wherever their chosen values stand
  abbrev pub TurnsAlike : Type 0
  TurnsAlike = (from : ℕ) (s : Assignment) (o : Option Turn) → TurnsOr program from s c q o → TurnsOr program from s b p o

  -- what is asked of c along the trees of q is asked of b along those of p
  abbrev pub AsksAlike : Type 0
  AsksAlike = (s : Assignment) (x : TermTree) → PlanAsks program q s c x → PlanAsks program p s b x
