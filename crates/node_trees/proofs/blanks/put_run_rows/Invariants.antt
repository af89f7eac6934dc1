use Rattle.std.proofs.Common.{◌≡◌, ◌++◌}
use Rattle.std.specs.Fn.{iterate}
use Rattle.rule_model.specs.Derivations.{Derivation}
use Rattle.symbolic_plans.specs.Plans.{put_row}
use Rattle.node_trees.specs.Rests.{rows_of}
use Rattle.node_trees.proofs.blanks.put_run_rows.Given as goal

abbrev pub invariant-loop-turn : goal.invariant-loop-turn
invariant-loop-turn l =
    (d : Derivation) → l.rows.items ++ rows_of d ≡ l.initial.rows.items ++ rows_of (iterate (put_row l.row) l._turn d)
