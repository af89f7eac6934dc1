use Rattle.std.proofs.Common.{rules, ◌≡◌, ◌∙◌, ◌++◌, ap, map, string_bytes}
use Rattle.rule_model.specs.Events.{event_of}
use Rattle.spec_core.specs.Code.{program_of}
use Rattle.trace_text.specs.declared.format.Format.TheVariants.{One}
use Rattle.trace_text.specs.Formats.{first_line, log_text, nothing_before}
use Rattle.trace_text.specs.Names.{names_in}
use Rattle.trace_text.proofs.Logs.{lines_one}
use Rattle.trace_text.proofs.print.print_entries.Goals as goal

pub returns : goal.returns
returns c =
    let names = names_in (program_of c.args.checked.now) in
    let log = map event_of c.args.entries.now in
    let text : string_bytes c.put_log.new.out ≡ first_line One ++ log_text names One nothing_before log = search rules in
    record { text = text ∙ ap (λ l. first_line One ++ l) (lines_one names nothing_before log) }
