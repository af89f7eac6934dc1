use Rattle.std.proofs.Common.{sym, ◌∙◌}
use Rattle.type_cycles.proofs.Reached.{no_cycle_of}
use Rattle.type_cycles.proofs.cycle.searched.Goals as goal

pub returns-then-is_marked : goal.returns-then-is_marked
returns-then-is_marked c = sym (no_cycle_of c.args.links.now c.args.number (c.requires.marked.end c.args.number (sym c.is_marked.ensures ∙ c.if-is_marked.true)))
