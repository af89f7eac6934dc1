use Rattle.std.proofs.Common.{rules, ◌≡◌, ◌∙◌, [], ◌∷◌, ◌++◌, ◌+◌, ap, sym, subst, refl, codes, arith}
use Rattle.rule_model.specs.Events.{ending_of, event_of}
use Rattle.rule_model.specs.Logs.{events_of}
use Rattle.lotos_ast.specs.declared.text_kind.TextKind.TheVariants.{Form}
use Rattle.spec_core.specs.Code.{program_of}
use Rattle.spec_core.proofs.Options.{if_none_at}
use Rattle.trace_text.specs.declared.format.Format.TheVariants.{Two}
use Rattle.trace_text.specs.Fits.{EndingFits, EventFits}
use Rattle.trace_text.specs.Formats.{behind_log, first_line, nothing_before}
use Rattle.trace_text.specs.Names.{names_with}
use Rattle.trace_text.specs.Trace.{end_word}
use Rattle.trace_text.proofs.Logs.{behind_push}
use Rattle.trace_text.specs.Standing.{StandsBehind}
use Rattle.trace_reader.specs.Entries.{IsNumbered}
use Rattle.trace_reader.specs.LineSays.{IsNoEnd, IsOnlyEntry}
use Rattle.trace_reader.specs.Lines.{IsOneLine}
use Rattle.trace_reader.specs.Reaching.{Reaches}
use Rattle.trace_reader.specs.Reading.{Follows, HasRead}
use Rattle.trace_reader.proofs.Lines.{format_so}
use Rattle.trace_reader.specs.Traces.{IsFault, IsFirstBad, bad_form}
use Rattle.trace_reader.specs.declared.fault.TraceFault.TheVariants.{Line}
use Rattle.trace_reader.proofs.Endings.{ended_badly, ended_well}
use Rattle.trace_reader.proofs.Steps.{fewer_left, no_line_at, only_at}
use Rattle.trace_reader.proofs.Traces.{bad_behind, bad_early, bad_next, bad_point, no_line, number_small, read_next, small_here, trace_read}
use Rattle.trace_reader.proofs.trace.read_lines.Goals as goal

pub returns-in-None-clause-fault : goal.returns-in-None-clause-fault
returns-in-None-clause-fault c =
    let program = program_of c.args.vocabulary.now.checked.now in
    let names = names_with c.args.vocabulary.now in
    let text = first_line c.args.format ++ c.args.lines.now in
    let log = events_of c.lines.log in
    let place = behind_log names nothing_before log in
    let read = c.lines.invariant.0 in
    let follows = c.lines.invariant.1 in
    let number = c.next_line-number.ensures place follows.stands in
    let parts : c.lines.rest.now ≡ c.in-Some.line.now ++ (10 ∷ c.in-Some.behind.now) = search rules in
    let one : IsOneLine c.in-Some.line.now = search rules in
    let same = λ (e : c.args.format ≡ Two). c.tree.ensures place follows.stands (follows.format_is ∙ e) in
    subst (IsFault program text) (sym (c.bad.ensures ∙ ap (λ n. Line n Form) number)) (bad_form c.requires.short refl
    (bad_next program c.args.format c.requires.readable.fits c.requires.readable.named text log c.lines.rest.now read c.requires.short
    c.in-Some.line.now c.in-Some.behind.now parts one
    (no_line_at program c.args.format c.tree.result.now place.tree same c.in-Some.line.now
    (if_none_at c.in_ok-read_line.field-0 c.in-None.is c.in_ok-read_line.ensures.none))))

pub ended-requires : goal.ended-requires
ended-requires c =
    let program = program_of c.args.vocabulary.now.checked.now in
    let names = names_with c.args.vocabulary.now in
    let text = first_line c.args.format ++ c.args.lines.now in
    let log = events_of c.lines.log in
    let place = behind_log names nothing_before log in
    let read = c.lines.invariant.0 in
    let follows = c.lines.invariant.1 in
    let number = c.next_line-number.ensures place follows.stands in
    let small = number_small program c.args.format text log c.lines.rest.now read c.requires.short in
    record { few = omega (arith, number, small) }

pub returns-in-Some-Ends-clause-trace : goal.returns-in-Some-Ends-clause-trace
returns-in-Some-Ends-clause-trace c =
    let program = program_of c.args.vocabulary.now.checked.now in
    let names = names_with c.args.vocabulary.now in
    let text = first_line c.args.format ++ c.args.lines.now in
    let log = events_of c.lines.log in
    let place = behind_log names nothing_before log in
    let read = c.lines.invariant.0 in
    let follows = c.lines.invariant.1 in
    let number = c.next_line-number.ensures place follows.stands in
    let parts : c.lines.rest.now ≡ c.in-Some.line.now ++ (10 ∷ c.in-Some.behind.now) = search rules in
    let one : IsOneLine c.in-Some.line.now = search rules in
    let is : c.in-Some.line.now ≡ codes "end " ++ end_word names (ending_of c.in-Some-Ends.end) = search rules in
    let last : EndingFits program (ending_of c.in-Some-Ends.end) = search rules in
    let whole = parts ∙ ap (λ l. l ++ (10 ∷ c.in-Some.behind.now)) is in
    ended_well program text c.args.format log (ending_of c.in-Some-Ends.end) c.in-Some.behind.now c.ended.result
    (trace_read program c.args.format c.requires.readable.fits c.requires.readable.named text log c.lines.rest.now read c.requires.short
    (ending_of c.in-Some-Ends.end) c.in-Some.behind.now last whole) c.ended.ensures.trace

pub returns-in-Some-Ends-clause-fault : goal.returns-in-Some-Ends-clause-fault
returns-in-Some-Ends-clause-fault c =
    let program = program_of c.args.vocabulary.now.checked.now in
    let names = names_with c.args.vocabulary.now in
    let text = first_line c.args.format ++ c.args.lines.now in
    let log = events_of c.lines.log in
    let place = behind_log names nothing_before log in
    let read = c.lines.invariant.0 in
    let follows = c.lines.invariant.1 in
    let number = c.next_line-number.ensures place follows.stands in
    let parts : c.lines.rest.now ≡ c.in-Some.line.now ++ (10 ∷ c.in-Some.behind.now) = search rules in
    let one : IsOneLine c.in-Some.line.now = search rules in
    let is : c.in-Some.line.now ≡ codes "end " ++ end_word names (ending_of c.in-Some-Ends.end) = search rules in
    let last : EndingFits program (ending_of c.in-Some-Ends.end) = search rules in
    let whole = parts ∙ ap (λ l. l ++ (10 ∷ c.in-Some.behind.now)) is in
    ended_badly program text c.next_line-number.result c.in-Some.behind.now c.ended.result c.requires.short
    (λ some. subst (λ n. IsFirstBad program text (n + 1)) (sym number)
    (bad_behind program c.args.format c.requires.readable.fits c.requires.readable.named text log c.lines.rest.now read c.requires.short
    (ending_of c.in-Some-Ends.end) c.in-Some.behind.now last whole some)) c.ended.ensures.fault

pub returns-clause-fault : goal.returns-clause-fault
returns-clause-fault c =
    let program = program_of c.args.vocabulary.now.checked.now in
    let names = names_with c.args.vocabulary.now in
    let text = first_line c.args.format ++ c.args.lines.now in
    let log = events_of c.lines.log in
    let place = behind_log names nothing_before log in
    let read = c.lines.invariant.0 in
    let number = c.next_line.ensures place c.lines.invariant.1.stands in
    let one : IsOneLine c.lines.rest.now = search rules in
    subst (IsFault program text) (sym (c.bad-2.ensures ∙ ap (λ n. Line n Form) number)) (bad_form c.requires.short refl
    (bad_early program c.args.format c.requires.readable.fits c.requires.readable.named text log c.lines.rest.now read c.requires.short one))

pub returns-in-Nothing-clause-fault : goal.returns-in-Nothing-clause-fault
returns-in-Nothing-clause-fault c =
    let program = program_of c.args.vocabulary.now.checked.now in
    let names = names_with c.args.vocabulary.now in
    let text = first_line c.args.format ++ c.args.lines.now in
    let log = events_of c.lines.log in
    let place = behind_log names nothing_before log in
    let read = c.lines.invariant.0 in
    let follows = c.lines.invariant.1 in
    let number = c.next_line-number.ensures place follows.stands in
    let parts : c.lines.rest.now ≡ c.in-Some.line.now ++ (10 ∷ c.in-Some.behind.now) = search rules in
    let one : IsOneLine c.in-Some.line.now = search rules in
    let event = event_of c.in-Some-Says.entry in
    let fit : EventFits program event = search rules in
    let same = λ (e : c.args.format ≡ Two). c.tree.ensures place follows.stands (follows.format_is ∙ e) in
    let only : IsOnlyEntry program c.args.format c.tree.result.now c.in-Some.line.now event = search rules in
    let none : IsNoEnd c.in-Some.line.now = search rules in
    let reached =
    subst (Reaches program c.args.format place event c.in-Some.line.now c.lines.rest.now) c.in-Nothing.is
    (subst (λ f. Reaches program f place event c.in-Some.line.now c.lines.rest.now c.in_ok-compare-in-Some-Says.field-0) follows.format_is
    (c.in_ok-compare-in-Some-Says.ensures.reach place follows.stands)) in
    subst (IsFault program text) (sym (c.bad-in-Nothing.ensures ∙ ap (λ n. Line n Form) number)) (bad_form c.requires.short refl
    (bad_next program c.args.format c.requires.readable.fits c.requires.readable.named text log c.lines.rest.now read c.requires.short
    c.in-Some.line.now c.in-Some.behind.now parts one
    (no_line program c.args.format c.requires.readable.fits c.requires.readable.named place.tree c.in-Some.line.now event fit
    (only_at program c.args.format c.tree.result.now place.tree same c.in-Some.line.now event only) none (reached one))))

pub overflow_add-number : goal.overflow_add-number
overflow_add-number c =
    let program = program_of c.args.vocabulary.now.checked.now in
    let text = first_line c.args.format ++ c.args.lines.now in
    let log = events_of c.lines.log in
    let place = behind_log (names_with c.args.vocabulary.now) nothing_before log in
    let number = c.next_line-number.ensures place c.lines.invariant.1.stands in
    let small = number_small program c.args.format text log c.lines.rest.now c.lines.invariant.0 c.requires.short in
    omega (arith, number, small)

pub returns-in-Line-clause-fault : goal.returns-in-Line-clause-fault
returns-in-Line-clause-fault c =
    let program = program_of c.args.vocabulary.now.checked.now in
    let names = names_with c.args.vocabulary.now in
    let text = first_line c.args.format ++ c.args.lines.now in
    let log = events_of c.lines.log in
    let place = behind_log names nothing_before log in
    let read = c.lines.invariant.0 in
    let follows = c.lines.invariant.1 in
    let number = c.next_line-number.ensures place follows.stands in
    let parts : c.lines.rest.now ≡ c.in-Some.line.now ++ (10 ∷ c.in-Some.behind.now) = search rules in
    let one : IsOneLine c.in-Some.line.now = search rules in
    let event = event_of c.in-Some-Says.entry in
    let fit : EventFits program event = search rules in
    let named : IsNumbered c.actions.result event = search rules in
    let numbered = subst (λ n. IsNumbered n event) (c.actions.ensures place follows.stands) named in
    let reached =
    subst (Reaches program c.args.format place event c.in-Some.line.now c.lines.rest.now) c.in-Line.is
    (subst (λ f. Reaches program f place event c.in-Some.line.now c.lines.rest.now c.in_ok-compare-in-Some-Says.field-0) follows.format_is
    (c.in_ok-compare-in-Some-Says.ensures.reach place follows.stands)) in
    let short =
    small_here program c.args.format c.requires.readable.fits c.requires.readable.named text log c.lines.rest.now read c.requires.short in
    let line_is =
    reached.0 one (format_so program c.requires.readable.fits c.requires.readable.named c.args.format place.tree event short fit) in
    subst (IsFault program text) (sym (c.bad-in-Line.ensures ∙ ap (λ n. Line (n + 1) Form) number)) (bad_form c.requires.short refl
    (bad_point program c.args.format c.requires.readable.fits c.requires.readable.named text log c.lines.rest.now read c.requires.short
    event fit numbered c.in-Some.behind.now (parts ∙ ap (λ l. l ++ (10 ∷ c.in-Some.behind.now)) line_is) reached.1))

pub lines-smaller : goal.lines-smaller
lines-smaller c =
    let program = program_of c.args.vocabulary.now.checked.now in
    let names = names_with c.args.vocabulary.now in
    let text = first_line c.args.format ++ c.args.lines.now in
    let log = events_of c.lines.log in
    let place = behind_log names nothing_before log in
    let read = c.lines.invariant.0 in
    let follows = c.lines.invariant.1 in
    let number = c.next_line-number.ensures place follows.stands in
    let parts : c.lines.rest.now ≡ c.in-Some.line.now ++ (10 ∷ c.in-Some.behind.now) = search rules in
    let one : IsOneLine c.in-Some.line.now = search rules in
    let event = event_of c.in-Some-Says.entry in
    let fit : EventFits program event = search rules in
    let reached =
    subst (Reaches program c.args.format place event c.in-Some.line.now c.lines.rest.now) c.in-All.is
    (subst (λ f. Reaches program f place event c.in-Some.line.now c.lines.rest.now c.in_ok-compare-in-Some-Says.field-0) follows.format_is
    (c.in_ok-compare-in-Some-Says.ensures.reach place follows.stands)) in
    fewer_left program c.args.format place event c.lines.rest.now c.in-All.further.now reached

pub lines-preserved : goal.lines-preserved
lines-preserved c =
    let program = program_of c.args.vocabulary.now.checked.now in
    let names = names_with c.args.vocabulary.now in
    let text = first_line c.args.format ++ c.args.lines.now in
    let log = events_of c.lines.log in
    let place = behind_log names nothing_before log in
    let read = c.lines.invariant.0 in
    let follows = c.lines.invariant.1 in
    let number = c.next_line-number.ensures place follows.stands in
    let parts : c.lines.rest.now ≡ c.in-Some.line.now ++ (10 ∷ c.in-Some.behind.now) = search rules in
    let one : IsOneLine c.in-Some.line.now = search rules in
    let event = event_of c.in-Some-Says.entry in
    let fit : EventFits program event = search rules in
    let named : IsNumbered c.actions.result event = search rules in
    let numbered = subst (λ n. IsNumbered n event) (c.actions.ensures place follows.stands) named in
    let reached =
    subst (Reaches program c.args.format place event c.in-Some.line.now c.lines.rest.now) c.in-All.is
    (subst (λ f. Reaches program f place event c.in-Some.line.now c.lines.rest.now c.in_ok-compare-in-Some-Says.field-0) follows.format_is
    (c.in_ok-compare-in-Some-Says.ensures.reach place follows.stands)) in
    let pushed : events_of c.push.new.self ≡ log ++ event ∷ [] = search rules in (
      subst (λ l. HasRead program c.args.format text l c.in-All.further.now) (sym pushed)
          (read_next program c.args.format text log c.lines.rest.now c.in-All.further.now event read fit numbered reached),
      subst (λ l. Follows program c.args.format l c.compare.new.lines) (sym pushed) (record {
        format_is = c.in_ok-compare-in-Some-Says.ensures.format ∙ follows.format_is;
        stands = subst (StandsBehind c.compare.new.lines) (sym (behind_push names nothing_before log event))
            (c.in_ok-compare-in-Some-Says.ensures.stands place follows.stands);
      }),
    )
