use Rattle.std.proofs.Common.{rules, ◌≡◌, ◌∙◌, ap, map, sym, take}
use Rattle.std.proofs.lemmas.List.{take-map}
use Rattle.rule_model.specs.Events.{event_of}
use Rattle.trace_text.specs.Formats.{actions_in, line_number}
use Rattle.trace_text.proofs.numbers.entry_line.Goals as goal

pub returns : goal.returns
returns c =
    let count : c.actions_in.result ≡ actions_in (map event_of (take c.args.entry c.args.entries.now)) = search rules in
    c.line_number.ensures ∙ ap (line_number c.args.format c.args.entry)
    (count ∙ ap actions_in (sym (take-map event_of c.args.entry c.args.entries.now)))
