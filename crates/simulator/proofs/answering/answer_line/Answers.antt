use Rattle.std.proofs.Common.{subst, sym}
use Rattle.simulator_lines.specs.declared.line.SimLine.{SimLine}
use Rattle.simulator_lines.specs.Lines.{asked_of}
use Rattle.simulator.specs.Sims.{Answers, sim_at}
use Rattle.simulator.proofs.answering.answer_line.Goals as goal

pub returns-in_ok-show_trace-in-Trace-clause-answer : goal.returns-in_ok-show_trace-in-Trace-clause-answer
returns-in_ok-show_trace-in-Trace-clause-answer c =
    let s = sim_at c.args.board.now c.args.last in
    subst (λ (l : SimLine). Answers s s (asked_of l) c.in_ok-show_trace-in-Trace.field-0) (sym c.in-Trace.is)
    (c.in_ok-show_trace-in-Trace.ensures c.args.last)
