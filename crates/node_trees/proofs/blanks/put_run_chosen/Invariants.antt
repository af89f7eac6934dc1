use Rattle.std.proofs.Common.{◌≡◌, ◌++◌}
use Rattle.std.specs.Fn.{iterate}
use Rattle.rule_model.specs.Derivations.{Derivation}
use Rattle.symbolic_plans.specs.Plans.{put_row}
use Rattle.node_trees.specs.Rests.{slots_of}
use Rattle.node_trees.proofs.blanks.put_run_chosen.Given as goal

abbrev pub invariant-loop-turn : goal.invariant-loop-turn
invariant-loop-turn l =
    (d : Derivation) → l.slots.items ++ slots_of d ≡ l.initial.slots.items ++ slots_of (iterate (put_row l.row) l._turn d)
