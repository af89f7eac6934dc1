use Rattle.std.proofs.Common.{◌∙◌, ◌++◌, ap}
use Rattle.static_readings.specs.Named.{one_behind_other}
use Rattle.static_processes.specs.NamedParts.{processes_within}
use Rattle.static_processes.proofs.HeadingsAt.{visible_by}
use Rattle.static_processes.proofs.named_parts.NamedParts.visible.Goals as goal

pub returns : goal.returns
returns c = λ headings table are.
    c.in_ok-add_visible.ensures ∙ ap (λ lists. one_behind_other lists ++ processes_within c.args.self.now c.args.around.now) c.new-all.ensures.items
    ∙ visible_by c.args.self.now headings table c.args.around.now are
