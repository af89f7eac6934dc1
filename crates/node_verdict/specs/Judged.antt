-- What is found of a behaviour by a tree of rules.
use Rattle.std.specs.Prelude.{ℕ, ◌≡◌, IfOk, IfErr, Option, Result, Ok, Err, option_map, option_and_then}
use Rattle.spec_core.specs.Code.{Program}
use Rattle.rule_model.specs.Behaviours.{Behaviour}
use Rattle.rule_model.specs.Derivations.{Derivation}
use Rattle.symbolic_rules.specs.Windows.{Windows}
use Rattle.symbolic_rules.specs.MarkedTerms.{MarkedAssignment}
use Rattle.node_values.specs.declared.stop.Stop.{Stop}
use Rattle.node_values.specs.Stops.{Stops, Never}
use Rattle.symbolic_actions.specs.declared.shown.Shown.{Shown}
use Rattle.symbolic_actions.specs.Models.{show_of}
use Rattle.symbolic_actions.specs.Shows.{Show, ShowsWith}
use Rattle.node_verdict.specs.Asking.{TreeAsks}

-- The answer is what the behaviour shows by the tree, with m x, a term or a mark, in the place of each free variable x; or it says why
-- there is none.
pub record Judged (program : Program) (w : Windows) (budget : ℕ) (m : MarkedAssignment) (b : Behaviour) (d : Derivation)
    (r : Result (Option Shown) Stop) : Type 0 where
  pub shows : IfOk r (λ o. ShowsWith program w m b d (option_map show_of o))
  pub stop : IfErr r (Stops program.theory budget (TreeAsks program w m b d) Never)

-- what f makes of what a part shows; a stop is handed on
abbrev pub Made : (Show → Option Show) → Result (Option Shown) Stop → Result (Option Shown) Stop → Type 0
Made f (Ok o) (Ok p) = option_map show_of p ≡ option_and_then f (option_map show_of o)
Made f (Ok o) (Err s) = ⊥
Made f (Err s) r = r ≡ Err s
