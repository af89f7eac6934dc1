-- Worked lists: which trees there are, and in which order. The data are one sort with two constants, `0` and `1`.
use Rattle.std.specs.Prelude.{ℕ, ◌≡◌, List, [], ◌∷◌, Option, Some, None, true, false}
use Rattle.spec_core.specs.Terms.{TermTree, constant, variable}
use Rattle.spec_core.specs.Theories.{Theory, Operation, premise}
use Rattle.spec_core.specs.Code.{accept, every_gate, these_gates}
use Rattle.rule_model.specs.declared.rules.Slot.{Slot}
use Rattle.rule_model.specs.declared.rules.Slot.TheVariants.{Of, Mark}
use Rattle.rule_model.specs.Behaviours.{Behaviour, stop, action, choice, guarded, value_choice, gate_choice, parallel, disable, call}
use Rattle.rule_model.specs.Derivations.{Derivation, pre, chl, chr, val, gate, guard, parl, parr, both, hiding, disstep, distake, calling}
use Rattle.rule_model.specs.Derivations.{rel}
use Rattle.symbolic_rules.specs.Windows.{Windows}
use Rattle.symbolic_rules.specs.Examples.{x_of, y_of, offering, taking, taking_inside, offer_of}
use Rattle.symbolic_composites.specs.Evaluations.{Evaluation}
use Rattle.symbolic_composites.specs.TreeLists.{candidates}

abbrev declared : Operation
declared = record { name = []; args = []; result = 0; marked = true; line = 0; column = 0 }

abbrev pub two_constants : Theory
two_constants = record { sorts = [] ∷ []; operations = declared ∷ declared ∷ []; equations = [] }

-- windows with both constants, and with the first alone
abbrev pub both_shown : Windows
both_shown = record { values = λ sort. (0 ∷ []) ∷ (1 ∷ []) ∷ []; complete = λ sort. true }

abbrev pub one_shown : Windows
one_shown = record { values = λ sort. (0 ∷ []) ∷ []; complete = λ sort. false }

abbrev constant_of : List ℕ → Option TermTree
constant_of [] = None
constant_of (c ∷ cs) = Some (constant c)

-- constants are values; no two terms are equal; process 0 is `P [a] := a; stop`
abbrev pub constants : Evaluation
constants = record {
  value = λ t. Some t;
  equal = λ a b. false;
  spelled = λ v sort. constant_of v;
  definition = λ p. Some (record { gates = 7 ∷ []; variables = []; body = action 7 [] None stop });
}

abbrev pub v0 : Slot
v0 = Of (0 ∷ [])

abbrev pub v1 : Slot
v1 = Of (1 ∷ [])

-- `g; stop`
abbrev pub once : ℕ → Behaviour
once g = action g [] None stop

-- `g ?x:S ?y:S; stop`
abbrev pub taking_two : Behaviour
taking_two = action 5 (accept (x_of 0) ∷ accept (y_of 0) ∷ []) None stop

-- In each: the trees of a behaviour at gate 5 over sort 0, with at most one call.
abbrev pub trees_of : Windows → Behaviour → List Derivation
trees_of w b = candidates two_constants constants w 1 b None

pub record ListsAreAsWorked : Type 0 where
  -- the leftmost value is the slowest, and the mark the last
  pub leftmost_is_slowest : trees_of both_shown taking_two ≡
      pre (v0 ∷ v0 ∷ []) ∷ pre (v0 ∷ v1 ∷ []) ∷ pre (v1 ∷ v0 ∷ []) ∷ pre (v1 ∷ v1 ∷ []) ∷ []
  pub mark_is_last : trees_of one_shown taking_two ≡
      pre (v0 ∷ v0 ∷ []) ∷ pre (v0 ∷ Mark ∷ []) ∷ pre (Mark ∷ v0 ∷ []) ∷ pre (Mark ∷ Mark ∷ []) ∷ []
  -- `g ?x:S` with the offer `g !1`: what it gives stands behind the window and before the mark
  pub offer_gives : candidates two_constants constants one_shown 1 (taking 5 (x_of 0) None) (Some (offer_of 5 (1 ∷ []))) ≡
      pre (v0 ∷ []) ∷ pre (v1 ∷ []) ∷ pre (Mark ∷ []) ∷ []
  -- `choice x:S [] g !x; stop`
  pub values_in_order : trees_of one_shown (offering 5 0 (variable 0)) ≡ val v0 (pre []) ∷ val Mark (pre []) ∷ []
  -- the same beside `g ?y:S; stop`: a value that is told is taken; beside a given mark each value may be, and the mark
  pub told_and_given : trees_of one_shown (parallel every_gate (offering 5 0 (variable 0)) (taking 5 (y_of 0) None)) ≡
      both (val v0 (pre [])) (pre (v0 ∷ [])) ∷ both (val Mark (pre [])) (pre (v0 ∷ [])) ∷ both (val Mark (pre [])) (pre (Mark ∷ [])) ∷ []
  -- `g ?x:S; stop || g ?y:S; stop`: both sides choose one value
  pub chosen_together : trees_of both_shown (parallel every_gate (taking 5 (x_of 0) None) (taking 5 (y_of 0) None)) ≡
      both (pre (v0 ∷ [])) (pre (v0 ∷ [])) ∷ both (pre (v1 ∷ [])) (pre (v1 ∷ [])) ∷ []
  -- `hide g in g ?x:S; stop`
  pub hidden : trees_of one_shown (taking_inside 5 0) ≡ hiding (pre (v0 ∷ [])) ∷ hiding (pre (Mark ∷ [])) ∷ []
  -- `(a; stop [] b; stop) ||| c; stop`: the left side, from the left, and then the right side
  pub alone : trees_of both_shown (parallel (these_gates []) (choice (once 1) (once 2)) (once 3)) ≡
      parl (chl (pre [])) ∷ parl (chr (pre [])) ∷ parr (pre []) ∷ []
  -- `(g; stop [] g; stop) || (g; stop [] g; stop)`: the left side is the slowest
  pub left_is_slowest : trees_of both_shown (parallel every_gate (choice (once 5) (once 5)) (choice (once 5) (once 5))) ≡
      both (chl (pre [])) (chl (pre [])) ∷ both (chl (pre [])) (chr (pre [])) ∷
      both (chr (pre [])) (chl (pre [])) ∷ both (chr (pre [])) (chr (pre [])) ∷ []
  -- `g ?x:S; stop [] g ?y:S; stop`: the values of one composite stand before those of the next
  pub composites_before_values : trees_of both_shown (choice (taking 5 (x_of 0) None) (taking 5 (y_of 0) None)) ≡
      chl (pre (v0 ∷ [])) ∷ chl (pre (v1 ∷ [])) ∷ chr (pre (v0 ∷ [])) ∷ chr (pre (v1 ∷ [])) ∷ []
  -- `choice g in [a, b] [] g; stop`
  pub gates_in_order : trees_of both_shown (gate_choice 5 (1 ∷ 2 ∷ []) (once 5)) ≡ gate 1 (rel (pre [])) ∷ gate 2 (rel (pre [])) ∷ []
  -- `a; stop [> b; stop`
  pub disabling : trees_of both_shown (disable (once 1) (once 2)) ≡ disstep (pre []) ∷ distake (pre []) ∷ []
  -- `choice x:S [] [x = 0] -> g; stop`, where the guard holds of no value: nothing stands under it, but it passes the mark
  pub guards : trees_of one_shown (value_choice (x_of 0) (guarded (premise (variable 0) (constant 0)) (once 5))) ≡
      val Mark (guard (pre [])) ∷ []
  -- `P [b] || b; stop`
  pub called : trees_of both_shown (parallel every_gate (call 0 (1 ∷ []) []) (once 1)) ≡ both (calling (rel (pre []))) (pre []) ∷ []
