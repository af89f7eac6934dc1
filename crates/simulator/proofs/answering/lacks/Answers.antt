use Rattle.std.proofs.Common.{subst, sym}
use Rattle.std.proofs.lemmas.Bool.{not-true}
use Rattle.simulator_lines.specs.declared.line.SimLine.{SimLine}
use Rattle.simulator_lines.specs.Lines.{asked_of}
use Rattle.simulator.specs.Sims.{LacksAsked}
use Rattle.simulator.proofs.answering.lacks.Goals as goal

pub returns-in-Do-clause-lacks : goal.returns-in-Do-clause-lacks
returns-in-Do-clause-lacks c = λ h.
    subst (λ (l : SimLine). LacksAsked c.args.steps (asked_of l)) (sym c.in-Do.is) (c.has_step.ensures.lacks (not-true c.has_step.result h))
