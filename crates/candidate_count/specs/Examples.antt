-- Worked numbers of possible agreements. The data are those of the worked lists of composites.
use Rattle.std.specs.Prelude.{ℕ, ◌≡◌, List, [], ◌∷◌, Option, Some, None, replicate, false}
use Rattle.spec_core.specs.Terms.{variable}
use Rattle.spec_core.specs.Theories.{Premise, premise}
use Rattle.spec_core.specs.Code as code
use Rattle.spec_core.specs.Code.{ActionField, Program, Node, give, accept, exit_any, every_gate}
use Rattle.rule_model.specs.Behaviours.{Behaviour, stop, exit, action, choice, value_choice, gate_choice, parallel, hide, enable, call}
use Rattle.symbolic_rules.specs.Windows.{Windows}
use Rattle.symbolic_rules.specs.MarkedTerms.{unmarked}
use Rattle.symbolic_rules.specs.Examples.{x_of, y_of, z_of}
use Rattle.symbolic_composites.specs.Evaluations.{Evaluation}
use Rattle.symbolic_composites.specs.Examples.{two_constants, constants, once}
use Rattle.symbolic_plans.specs.OwnPlans.{own_plans}
use Rattle.candidate_count.specs.Counts.{offers_of_plans}

-- windows of so many values, which aren't complete
abbrev pub showing : ℕ → Windows
showing k = record { values = λ sort. replicate k (0 ∷ []); complete = λ sort. false }

-- a specification with this code
abbrev pub with_code : List Node → Program
with_code nodes = record { theory = two_constants; code = nodes; start = 0; gates = []; processes = 1 }

-- `P [a] := a ?x:S [x = x]; stop`
abbrev pub equal_to_itself : Option Premise
equal_to_itself = Some (premise (variable 0) (variable 0))

abbrev pub guarded_process : List Node
guarded_process =
    code.process (7 ∷ []) [] 2 ∷ code.stop ∷ code.action 7 (accept (x_of 0) ∷ []) equal_to_itself 1 ∷ []

-- the answers of the worked lists, with this process
abbrev pub with_process : Evaluation
with_process = record {
  value = constants.value;
  equal = constants.equal;
  spelled = constants.spelled;
  definition = λ p. Some (record { gates = 7 ∷ []; variables = []; body = action 7 (accept (x_of 0) ∷ []) equal_to_itself stop });
}

-- the number with at most one call
abbrev pub offers_of : ℕ → Behaviour → ℕ
offers_of k b = offers_of_plans (with_code guarded_process) (showing k) b (own_plans two_constants with_process (showing k) 1 unmarked b)

-- `g ?x:S ?y:S [p]; stop`
abbrev pub taking_both : Option Premise → Behaviour
taking_both p = action 5 (accept (x_of 0) ∷ accept (y_of 0) ∷ []) p stop

abbrev pub one_equals_other : Option Premise
one_equals_other = Some (premise (variable 0) (variable 1))

-- the fields `?x:S ?y:S ?z:S ?x:S`
abbrev pub four_fields : List ActionField
four_fields = accept (x_of 0) ∷ accept (y_of 0) ∷ accept (z_of 0) ∷ accept (x_of 0) ∷ []

pub record OffersAreAsWorked : Type 0 where
  -- `stop`, and `a; stop [] b; stop`
  pub ended : offers_of 16 stop ≡ 0
  pub either : offers_of 16 (choice (once 1) (once 2)) ≡ 2
  -- `choice x:S [] g !x; stop`: one for each value, and one for the mark
  pub offered : offers_of 16 (value_choice (x_of 0) (action 5 (give (variable 0) ∷ []) None stop)) ≡ 17
  -- `g ?x:S ?y:S; stop`, and with a predicate
  pub taken : offers_of 16 (taking_both None) ≡ 1
  pub tested : offers_of 16 (taking_both one_equals_other) ≡ 256
  pub four_tested : offers_of 33 (action 5 four_fields one_equals_other stop) ≡ 1185921
  -- `g ?x:S ?y:S; stop || g ?x:S ?y:S [x = y]; stop`: one participant has a predicate
  pub one_tested : offers_of 16 (parallel every_gate (taking_both None) (taking_both one_equals_other)) ≡ 256
  -- `hide g in g ?x:S ?y:S; stop`: what is done isn't at a gate
  pub hidden : offers_of 16 (hide (5 ∷ []) (taking_both None)) ≡ 256
  -- `exit(any S, any S)`, alone and where it hands on its values
  pub ending : offers_of 16 (exit (exit_any 0 ∷ exit_any 0 ∷ [])) ≡ 256
  pub handing : offers_of 16 (enable (exit (exit_any 0 ∷ exit_any 0 ∷ [])) (x_of 0 ∷ y_of 0 ∷ []) stop) ≡ 256
  -- `choice g in [a, b] [] g ?x:S ?y:S [x = y]; stop`
  pub gates : offers_of 16 (gate_choice 5 (1 ∷ 2 ∷ []) (taking_both one_equals_other)) ≡ 512
  -- `P [b]`, where P has a predicate
  pub called : offers_of 16 (call 0 (1 ∷ []) []) ≡ 16
