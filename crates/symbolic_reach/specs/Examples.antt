-- Worked spreads. The data are those of the worked lists of composites.
use Rattle.std.specs.Prelude.{ℕ, ◌≡◌, [], ◌∷◌}
use Rattle.spec_core.specs.Terms.{constant, variable}
use Rattle.spec_core.specs.Theories.{premise}
use Rattle.spec_core.specs.Code.{every_gate}
use Rattle.rule_model.specs.Behaviours.{Behaviour, stop, choice, guarded, value_choice, gate_choice, parallel, enable, call}
use Rattle.symbolic_rules.specs.Windows.{Windows}
use Rattle.symbolic_rules.specs.MarkedTerms.{unmarked}
use Rattle.symbolic_rules.specs.Examples.{x_of}
use Rattle.symbolic_composites.specs.Examples.{two_constants, both_shown, one_shown, constants, once}
use Rattle.symbolic_reach.specs.Spread.{spread}

-- the spread with at most one call
abbrev pub spread_of : Windows → Behaviour → ℕ
spread_of w b = spread two_constants constants w 1 unmarked b

pub record SpreadsAreAsWorked : Type 0 where
  -- `stop`, and `a; stop [] b; stop`
  pub ended : spread_of both_shown stop ≡ 0
  pub either : spread_of both_shown (choice (once 1) (once 2)) ≡ 3
  -- `P [b]`, where P is `P [a] := a; stop`: the call, the relabelling and the action
  pub called : spread_of both_shown (call 0 (1 ∷ []) []) ≡ 3
  -- `choice x:S [] a; stop`: once for each value, or for the one value and the mark
  pub values : spread_of both_shown (value_choice (x_of 0) (once 5)) ≡ 3
  pub value_and_mark : spread_of one_shown (value_choice (x_of 0) (once 5)) ≡ 3
  -- `choice g in [a, b] [] g; stop`
  pub gates : spread_of both_shown (gate_choice 5 (1 ∷ 2 ∷ []) (once 5)) ≡ 5
  -- `[0 = 1] -> (a; stop || b; stop)`: the guard doesn't hold
  pub failing : spread_of both_shown (guarded (premise (constant 0) (constant 1)) (parallel every_gate (once 1) (once 2))) ≡ 1
  -- `choice x:S [] [x = 0] -> a; stop`: the guard holds of no value, but it passes the mark
  pub passing : spread_of one_shown (value_choice (x_of 0) (guarded (premise (variable 0) (constant 0)) (once 5))) ≡ 4
  -- `a; stop >> b; stop`
  pub enabling : spread_of both_shown (enable (once 1) [] (once 2)) ≡ 2
