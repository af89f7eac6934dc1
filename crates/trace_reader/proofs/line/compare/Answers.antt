use Rattle.std.proofs.Common.{rules, ◌≡◌, ◌∙◌, ◌++◌, [], None, Some, ap, string_bytes}
use Rattle.std.proofs.lemmas.Bool.Decides.{Decides-eqb}
use Rattle.std.proofs.lemmas.Slice.Eq.{strip_prefix_is}
use Rattle.rule_model.specs.Events.{event_of}
use Rattle.spec_core.specs.Code.{program_of}
use Rattle.trace_text.specs.Formats.{event_text}
use Rattle.trace_text.specs.Names.{names_with}
use Rattle.trace_reader.proofs.Steps.{at_all, at_line}
use Rattle.trace_reader.proofs.line.compare.Goals as goal

pub returns-in-Some-clause-reach : goal.returns-in-Some-clause-reach
returns-in-Some-clause-reach c before stands =
    let event = event_of c.args.entry.now in
    let lines = event_text (names_with c.args.vocabulary.now) c.args.lines.now.format before event in
    let bytes : c.as_bytes-printed.result.now ≡ string_bytes c.put_entry.new.out = search rules in
    let empty : string_bytes c.new-printed.result ≡ [] = search rules in
    at_all (program_of c.args.vocabulary.now.checked.now) c.args.lines.now.format before event c.as_bytes-printed.result.now c.args.text.now
    c.in-Some.behind.now (bytes ∙ c.in_ok-put_entry.ensures.text before stands ∙ ap (λ o. o ++ lines) empty)
    (strip_prefix_is Decides-eqb c.args.text.now c.as_bytes-printed.result.now (Some c.in-Some.behind) c.in-Some.ensures.cases)

pub returns-then-begins_with-clause-reach : goal.returns-then-begins_with-clause-reach
returns-then-begins_with-clause-reach c before stands =
    let event = event_of c.args.entry.now in
    let lines = event_text (names_with c.args.vocabulary.now) c.args.lines.now.format before event in
    let bytes : c.as_bytes-printed.result.now ≡ string_bytes c.put_entry.new.out = search rules in
    let empty : string_bytes c.new-printed.result ≡ [] = search rules in
    let found = c.begins_with.ensures.first c.if-begins_with.true in
    at_line (program_of c.args.vocabulary.now.checked.now) c.args.lines.now.format before event c.as_bytes-printed.result.now c.args.line.now
    c.args.text.now found.0 (bytes ∙ c.in_ok-put_entry.ensures.text before stands ∙ ap (λ o. o ++ lines) empty) found.1
    (strip_prefix_is Decides-eqb c.args.text.now c.as_bytes-printed.result.now None c.in-None.ensures.cases)
