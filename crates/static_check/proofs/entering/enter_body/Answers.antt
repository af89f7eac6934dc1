use Rattle.std.proofs.Common.{◌∙◌, ◌∷◌, ap, map}
use Rattle.std.proofs.lemmas.Result.{on_ok_weaker}
use Rattle.static_equations.specs.Variables.{all_variables}
use Rattle.static_readings.specs.Sites.{with_gates, with_variables}
use Rattle.static_readings.specs.Named.{one_behind_other}
use Rattle.static_readings.specs.Views.{heading_of}
use Rattle.static_processes.specs.NamedParts.{headings_at}
use Rattle.static_processes.specs.Processes.{visible_in}
use Rattle.static_processes.specs.Views.{entry_of}
use Rattle.static_check.proofs.Sites.{body_entered}
use Rattle.static_check.proofs.entering.enter_body.Goals as goal

pub returns : goal.returns
returns c =
    let table = map entry_of c.args.setting.now.table.now in
    let headings = map heading_of c.args.setting.now.headings.now in
    on_ok_weaker c.put_declarations.result
    (λ h. body_entered c.args.site.now c.go.new.self c.put_gates.new.self c.put_declarations.new.site c.args.setting.now.gates table c.args.number (entry_of c.args.entry.now)
    headings (one_behind_other c.in_ok-all.all.items) c.requires.headings
    (c.in_ok-all.ensures headings table c.args.setting.now.parted ∙ ap (λ xs. headings_at headings (visible_in table (c.args.number ∷ xs))) c.deref.ensures.value) c.go.ensures
    (c.in_ok-put_gates.ensures ∙ ap (with_gates c.go.new.self) c.gates_of.ensures)
    (h ∙ ap (λ ds. with_variables c.put_gates.new.self (all_variables c.put_gates.new.self.context.sorts ds)) c.parameters_of.ensures))
    c.put_declarations.ensures
