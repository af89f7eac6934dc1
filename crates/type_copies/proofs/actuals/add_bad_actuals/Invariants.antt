use Rattle.std.proofs.Common.{◌≡◌, ◌++◌, take, map}
use Rattle.std.specs.List.{flat_map}
use Rattle.type_contents.specs.Views.{described_of}
use Rattle.type_copies.specs.BadActuals.{bad_actual}
use Rattle.type_copies.specs.Views.{item_at}
use Rattle.type_copies.proofs.actuals.add_bad_actuals.Given as goal

abbrev pub invariant-loop-declared : goal.invariant-loop-declared
invariant-loop-declared l = l.refusals.items ≡ l.initial.refusals.items ++ flat_map (bad_actual l.place l.pairs (map item_at l.formals) (map item_at l.actual)) (map described_of (take l.declared-index l.all))
