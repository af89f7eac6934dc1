use Rattle.std.proofs.Common.{◌∙◌, ap, length, sym}
use Rattle.std.proofs.lemmas.List.{length-map}
use Rattle.rule_model.specs.Events.{event_of}
use Rattle.rule_model.specs.Logs.{events_of}
use Rattle.trace_text.specs.Formats.{line_number}
use Rattle.trace_reader.proofs.trace.next_line.Goals as goal

pub returns : goal.returns
returns c b stands =
    c.line_number.ensures
    ∙ ap (λ n. line_number c.args.format n c.actions.result)
    (sym (length-map c.as_slice.result.now event_of) ∙ ap length c.as_slice.ensures)
    ∙ ap (line_number c.args.format (length (events_of c.args.log.now))) (c.actions.ensures b stands)
