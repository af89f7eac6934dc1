use Rattle.std.proofs.Common.{◌≡◌, map, take}
use Rattle.rule_model.specs.Events.{event_of}
use Rattle.command_selfrun.specs.Tallies.{counts_of}
use Rattle.command_selfrun.proofs.counting.counts_of.Given as goal

abbrev pub invariant-loop-entry : goal.invariant-loop-entry
invariant-loop-entry l = l.counts ≡ counts_of (map event_of (take l.entry-index l.entries))
