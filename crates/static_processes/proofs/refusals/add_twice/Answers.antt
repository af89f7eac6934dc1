use Rattle.std.proofs.Common.{map, Some}
use Rattle.type_names.specs.DuplicateNames.{names_twice}
use Rattle.static_processes.specs.Processes.{names_in}
use Rattle.static_processes.specs.Views.{entry_of}
use Rattle.static_processes.proofs.Sorts.{ranged_next}
use Rattle.static_processes.proofs.refusals.add_twice.Goals as goal

pub loop-number-preserved : goal.loop-number-preserved
loop-number-preserved c = ranged_next (λ number. names_twice (names_in (map entry_of c.args.table.now) (Some number))) c.loop-number.number
    c.add_twice_in.new.refusals.items c.loop-number.refusals.items c.add_twice_in-in-loop-number.new.refusals.items
    c.loop-number.invariant (c.in_ok-add_twice_in-2).ensures
