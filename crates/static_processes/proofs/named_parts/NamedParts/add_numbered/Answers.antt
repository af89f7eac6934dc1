use Rattle.std.proofs.Common.{◌∙◌, ◌++◌, append-nil, sym, ap}
use Rattle.static_processes.specs.NamedParts.{processes_at}
use Rattle.static_processes.specs.Processes.{is_innermost}
use Rattle.static_processes.proofs.HeadingsAt.{no_heading}
use Rattle.static_processes.proofs.named_parts.NamedParts.add_numbered.Goals as goal

pub returns-else-number-headings : goal.returns-else-number-headings
returns-else-number-headings c = λ within.
    let before = processes_at c.args.self.now within in
    sym (append-nil before) ∙ ap (λ hs. before ++ hs)
    (sym (no_heading c.args.headings.now (is_innermost within c.args.around.now) c.args.number c.if-number-headings.false))
