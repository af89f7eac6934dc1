use Rattle.std.proofs.Common.{◌≡◌, ◌++◌}
use Rattle.type_names.proofs.declared_items.add_all.Given as goal

abbrev pub invariant-loop-declared : goal.invariant-loop-declared
invariant-loop-declared l = l.all.items ≡ l.initial.all.items ++ l.yielded
