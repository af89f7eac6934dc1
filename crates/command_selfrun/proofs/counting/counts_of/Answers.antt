use Rattle.std.proofs.Common.{ap, ◌∙◌}
use Rattle.command_selfrun.specs.Tallies.{plus}
use Rattle.command_selfrun.proofs.Entries.{counted_more}
use Rattle.command_selfrun.proofs.counting.counts_of.Goals as goal

pub loop-entry-preserved : goal.loop-entry-preserved
loop-entry-preserved c =
    counted_more c.args.entries.now c.loop-entry.entry-index c.entry-item.result c.loop-entry.counts c.in_ok-counts.counts
    c.loop-entry-test.true c.entry-item.is c.loop-entry.invariant
    (c.in_ok-counts.ensures ∙ ap (plus c.loop-entry.counts) c.counts_in.ensures)
