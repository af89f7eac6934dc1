use Rattle.std.proofs.Common.{◌<◌, ◌≡◌, length, map, take, ◌+◌, get_or, subst, sym, ap, ◌∙◌}
use Rattle.std.proofs.Math.ListN.{length-set}
use Rattle.equation_sets.proofs.Walks.{within_at}
use Rattle.spec_core.specs.Lists.{Each}
use Rattle.equation_overlaps.specs.Renamings.{new_name}
use Rattle.equation_overlaps.proofs.Naming.{named_next}
use Rattle.equation_overlaps.proofs.renaming.names_of.Goals as goal

pub loop-i-preserved : goal.loop-i-preserved
loop-i-preserved c =
    let from = c.args.from.now in
    let to = c.args.to.now in
    let i = c.loop-i.i in
    let names = c.loop-i.names.items in
    let reached = within_at (length names) from i c.loop-i-test.true c.loop-i.invariant.reached in
    record {
      reached = subst (λ b. Each (λ n. n < b) from) (sym (ap length c.put_name.ensures ∙ length-set names (get_or from i 0) (get_or to i 0))) c.loop-i.invariant.reached;
      renamed = subst (λ new. map (new_name new) (take (i + 1) from) ≡ take (i + 1) to) (sym c.put_name.ensures)
          (named_next names from to i c.loop-i-test.true c.requires.paired c.requires.distinct reached c.loop-i.invariant.renamed);
    }
