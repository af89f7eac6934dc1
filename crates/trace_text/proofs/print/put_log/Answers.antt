use Rattle.std.proofs.Common.{◌∙◌, ◌++◌, ap, sym, subst, append_assoc, map, string_bytes, take}
use Rattle.rule_model.specs.Events.{event_of}
use Rattle.trace_text.specs.Formats.{behind_log, event_text, log_text, nothing_before}
use Rattle.trace_text.specs.Names.{names_with}
use Rattle.trace_text.specs.Standing.{StandsBehind}
use Rattle.trace_text.proofs.Counting.{events_more}
use Rattle.trace_text.proofs.Logs.{behind_push, text_push}
use Rattle.trace_text.proofs.print.put_log.Goals as goal

pub loop-entry-preserved : goal.loop-entry-preserved
loop-entry-preserved c =
    let names = names_with c.args.vocabulary.now in
    let log = map event_of (take c.loop-entry.entry-index c.args.entries.now) in
    let x = event_of c.entry-item.result in
    let before = behind_log names nothing_before log in
    let out = string_bytes c.args.out.now in
    let more = events_more c.args.entries.now c.loop-entry.entry-index c.entry-item.result c.loop-entry-test.true c.entry-item.is in
    let h = c.loop-entry.invariant in (
      c.in_ok-put_entry.ensures.format ∙ h.0,
      subst (StandsBehind c.put_entry.new.self) (sym (ap (behind_log names nothing_before) more ∙ behind_push names nothing_before log x))
          (c.in_ok-put_entry.ensures.stands before h.1),
      c.in_ok-put_entry.ensures.text before h.1 ∙ ap (λ f. string_bytes c.loop-entry.out ++ event_text names f before x) h.0
          ∙ ap (λ o. o ++ event_text names c.args.format before x) h.2
          ∙ append_assoc out (log_text names c.args.format nothing_before log) (event_text names c.args.format before x)
          ∙ ap (λ z. out ++ z) (sym (text_push names c.args.format nothing_before log x))
          ∙ ap (λ es. out ++ log_text names c.args.format nothing_before es) (sym more),
    )
