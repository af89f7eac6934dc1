use Rattle.spec_core.specs.Lists.{Each}
use Rattle.session_threads.specs.Started.{IsFit, StaysStarted}
use Rattle.session_threads.proofs.threads.serve_here.Given as goal

abbrev pub invariant-loop : goal.invariant-loop
invariant-loop g l = record {
  fit : Each (IsFit l.fn.session) l.started.items;
  started : StaysStarted l.fn.started.items l.started.items;
}
