-- How many operators and actions of a behaviour no action comes before. (This profile.)
use Rattle.std.specs.Prelude.{ℕ, zero, suc, ◌+◌, ◌*◌, length, sum_by, Option, Some, None, if◌then◌else◌}
use Rattle.spec_core.specs.Theories.{Theory}
use Rattle.rule_model.specs.Behaviours.{Behaviour, stop, exit, inner, action, choice, guarded, bound, value_choice, gate_choice, parallel}
use Rattle.rule_model.specs.Behaviours.{hide, enable, disable, call, relabel}
use Rattle.symbolic_rules.specs.Windows.{Windows}
use Rattle.symbolic_rules.specs.MarkedTerms.{MarkedAssignment, unmarked, with_marked}
use Rattle.symbolic_composites.specs.Evaluations.{Evaluation, premise_may_hold, chosen_term, with_bindings, with_arguments}
use Rattle.symbolic_composites.specs.OpenFields.{window_slots}

-- the number of what is there, if something is there
abbrev pub number_of : {A : Type 0} → Option A → (A → ℕ) → ℕ
number_of None f = 0
number_of (Some a) f = f a

module _ (theory : Theory) (e : Evaluation) (w : Windows) where
  -- The number of the behaviour's operators and actions that no action comes before, with m x, a term or a mark, in the place of each free
  -- variable x; `called` has those of the bodies of processes. Each construct but `stop` counts one, and so does the relabelling that a
  -- call or a choice of gates makes. A choice of a value has its body once for each value of the window, and once for the mark where the
  -- window isn't complete; a choice of a gate has its body once for each gate. Under a guard that doesn't hold nothing counts.
  abbrev pub spread_in : (MarkedAssignment → Behaviour → ℕ) → MarkedAssignment → Behaviour → ℕ
  spread_in called m stop = 0
  spread_in called m (exit fields) = 1
  spread_in called m (inner rest) = 1
  spread_in called m (action g fields p rest) = 1
  spread_in called m (choice left right) = 1 + (spread_in called m left + spread_in called m right)
  spread_in called m (guarded p body) = 1 + (if premise_may_hold theory e m p then spread_in called m body else 0)
  spread_in called m (bound bindings body) = 1 + number_of (with_bindings theory e m m bindings) (λ l. spread_in called l body)
  spread_in called m (value_choice x body) =
      1 + sum_by (λ slot. number_of (chosen_term theory e w slot x.sort) (λ k. spread_in called (with_marked x k m) body))
      (window_slots w x.sort)
  spread_in called m (gate_choice g gates body) = 1 + length gates * (1 + spread_in called m body)
  spread_in called m (parallel gates left right) = 1 + (spread_in called m left + spread_in called m right)
  spread_in called m (hide gates body) = 1 + spread_in called m body
  spread_in called m (enable left xs right) = 1 + spread_in called m left
  spread_in called m (disable left right) = 1 + (spread_in called m left + spread_in called m right)
  spread_in called m (call p actual terms) =
      1 + number_of (e.definition p)
      (λ d. number_of (with_arguments theory e m unmarked d.variables terms) (λ l. 1 + called l d.body))
  spread_in called m (relabel pairs body) = 1 + spread_in called m body

  -- below so many calls, one in another, nothing is counted
  abbrev pub spread_below : ℕ → MarkedAssignment → Behaviour → ℕ
  spread_below zero m b = 0
  spread_below (suc n) m b = spread_in (spread_below n) m b

  -- the spread of a behaviour with at most n calls in one another
  abbrev pub spread : ℕ → MarkedAssignment → Behaviour → ℕ
  spread n m b = spread_in (spread_below n) m b
