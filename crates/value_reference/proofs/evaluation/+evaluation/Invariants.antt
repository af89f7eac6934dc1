use Rattle.std.proofs.Common.{◌≤◌, map, take}
use Rattle.spec_core.specs.Evaluation.{EvaluatesAll}
use Rattle.spec_core.specs.Terms.{terms, term_of}
use Rattle.spec_core.specs.Theories.{theory_of}
use Rattle.value_reference.proofs.evaluation.+evaluation.Given as goal

abbrev pub decreases-evaluate : goal.decreases-evaluate
decreases-evaluate l = l.depth

abbrev pub decreases-evaluate_all : goal.decreases-evaluate_all
decreases-evaluate_all l = l.depth

abbrev pub decreases-try_equations : goal.decreases-try_equations
decreases-try_equations l = l.depth

abbrev pub decreases-ask_premises : goal.decreases-ask_premises
decreases-ask_premises l = l.depth

abbrev pub decreases-ask_sides : goal.decreases-ask_sides
decreases-ask_sides l = l.depth

abbrev pub decreases-use_equation : goal.decreases-use_equation
decreases-use_equation l = l.depth

abbrev pub invariant-evaluate_all-loop-term : goal.invariant-evaluate_all-loop-term
invariant-evaluate_all-loop-term l = record {
  values : EvaluatesAll (theory_of l.algebra) (terms (map term_of (take l.term-index l.args))) (terms (map term_of l.values.items)) l.uses;
  within : l.uses ≤ l.budget;
}
