use Rattle.std.proofs.Common.{rules, ◌≡◌, ◌≢◌, ◌∙◌, ◌++◌, ℕ, List, IfOk, IfErr, ap, sym, subst, refl}
use Rattle.rule_model.specs.Events.{ending_of}
use Rattle.rule_model.specs.Logs.{events_of}
use Rattle.spec_core.specs.Code.{program_of}
use Rattle.trace_text.specs.declared.format.Format.{Format}
use Rattle.trace_text.specs.Formats.{first_line}
use Rattle.trace_reader.specs.Traces.{IsFault, IsTrace, bad_form}
use Rattle.trace_reader.proofs.Traces.{bad_heading}
use Rattle.trace_reader.proofs.trace.read_trace.Goals as goal

pub returns-in-None-clause-fault : goal.returns-in-None-clause-fault
returns-in-None-clause-fault c =
    let none : (format : Format) (lines : List ℕ) → c.args.text.now ≢ first_line format ++ lines = search rules in
    subst (IsFault (program_of c.args.checked.now) c.args.text.now) (sym c.bad.ensures)
    (bad_form c.if-text-gt-TRACE_LIMIT.false refl
    (bad_heading (program_of c.args.checked.now) c.args.text.now none))

pub returns-in_ok-vocabulary-in-Some-clause-trace : goal.returns-in_ok-vocabulary-in-Some-clause-trace
returns-in_ok-vocabulary-in-Some-clause-trace c =
    let whole : c.args.text.now ≡ first_line c.in-Some.format ++ c.in-Some.lines.now = search rules in
    subst (λ p. IfOk c.read_lines.result (λ t. IsTrace p c.args.text.now t.format (events_of t.log) (ending_of t.end)))
    c.in_ok-vocabulary-in-Some.ensures.same
    (subst (λ s. IfOk c.read_lines.result (λ t.
    IsTrace (program_of c.in_ok-vocabulary-in-Some.vocabulary.checked.now) s t.format (events_of t.log) (ending_of t.end))) (sym whole)
    c.read_lines.ensures.trace)

pub returns-in_ok-vocabulary-in-Some-clause-fault : goal.returns-in_ok-vocabulary-in-Some-clause-fault
returns-in_ok-vocabulary-in-Some-clause-fault c =
    let whole : c.args.text.now ≡ first_line c.in-Some.format ++ c.in-Some.lines.now = search rules in
    subst (λ p. IfErr c.read_lines.result (IsFault p c.args.text.now)) c.in_ok-vocabulary-in-Some.ensures.same
    (subst (λ s. IfErr c.read_lines.result (IsFault (program_of c.in_ok-vocabulary-in-Some.vocabulary.checked.now) s)) (sym whole)
    c.read_lines.ensures.fault)
