use Rattle.std.proofs.Common.{subst, ◌∙◌}
use Rattle.std.proofs.lemmas.Result.{err_from_is_err_and}
use Rattle.spec_core.specs.Terms.{term_of}
use Rattle.spec_core.specs.Theories.{theory_of}
use Rattle.rewriter.proofs.Moves.{keep_on}
use Rattle.rewriter.specs.Machine.{Evaluating}
use Rattle.rewriter.specs.Runs.{IsReady}
use Rattle.rewriter.proofs.Loop.{moved_kept, before_step, ended_at, met_none, never_ended, spent_at}
use Rattle.rewriter.proofs.run.run.Goals as goal

pub returns-in_err-uses-in-Some-clause-spent : goal.returns-in_err-uses-in-Some-clause-spent
returns-in_err-uses-in-Some-clause-spent c =
    let p = err_from_is_err_and c.from_residual.result c.from_residual.ensures.1 in
    rw (p.1, p.2)
    (λ e. spent_at (theory_of c.args.algebra.now)
    (term_of c.args.term.now) c.loop-turn.nodes c.loop-turn.todo c.loop-turn.values c.loop-turn.uses c.loop-turn.invariant.kept
    c.in-Some.step c.pop.new.self c.args.budget c.in-Some.ensures.popped (c.in_err-uses-in-Some.ensures.spent e))

pub returns-in_err-node-in-None-clause-spent : goal.returns-in_err-node-in-None-clause-spent
returns-in_err-node-in-None-clause-spent c =
    let p = err_from_is_err_and c.from_residual-in_err-node-in-None.result c.from_residual-in_err-node-in-None.ensures.1 in
    rw (p.1, p.2)
    (λ e. never_ended (theory_of c.args.algebra.now)
    (term_of c.args.term.now) c.loop-turn.nodes c.loop-turn.todo c.loop-turn.values c.loop-turn.uses c.loop-turn.invariant.kept
    c.args.budget c.in-None.ensures.popped.0 c.in_err-node-in-None.ensures.spent)

pub returns-in-None-clause-value : goal.returns-in-None-clause-value
returns-in-None-clause-value c =
    ended_at (theory_of c.args.algebra.now)
    (term_of c.args.term.now) c.loop-turn.nodes c.loop-turn.todo c.loop-turn.values c.loop-turn.uses c.loop-turn.invariant.kept
    c.in_ok-node-in-None.node c.args.budget c.in-None.ensures.popped.0 c.in_ok-node-in-None.ensures.one c.loop-turn.invariant.within

pub returns-in-None-clause-small : goal.returns-in-None-clause-small
returns-in-None-clause-small c =
    met_none (theory_of c.args.algebra.now)
    (term_of c.args.term.now) c.loop-turn.nodes c.loop-turn.todo c.loop-turn.values c.loop-turn.uses c.loop-turn.invariant.kept
    c.in_ok-node-in-None.node c.in-None.ensures.popped.0 c.in_ok-node-in-None.ensures.one

pub loop-turn-preserved : goal.loop-turn-preserved
loop-turn-preserved c =
    let t = theory_of c.args.algebra.now in
    let term = term_of c.args.term.now in
    let kept = keep_on 0 c.loop-turn.uses c.in_ok-uses-in-Some.uses
    (before_step t term c.loop-turn.nodes c.loop-turn.todo c.loop-turn.values c.loop-turn.uses c.loop-turn.invariant.kept
    c.in-Some.step c.pop.new.self c.in-Some.ensures.popped)
    c.in_ok-uses-in-Some.ensures.kept in
    record {
      ready = c.in_ok-limit-in-Some.ensures.ready c.in_ok-uses-in-Some.uses c.in_ok-uses-in-Some.ensures.ready;
      kept = moved_kept (Evaluating t term) t c.perform.new.nodes c.tidy.new.nodes c.perform.new.todo c.tidy.new.todo
          c.perform.new.values c.tidy.new.values 0 c.in_ok-uses-in-Some.uses c.in_ok-limit-in-Some.ensures.tasks
          c.in_ok-limit-in-Some.ensures.values kept;
      room = c.in_ok-uses-in-Some.ensures.room ∙ c.loop-turn.invariant.room;
      within = c.in_ok-uses-in-Some.ensures.within;
    }

pub perform-requires-clause-ready : goal.perform-requires-clause-ready
perform-requires-clause-ready c =
    subst (λ steps. IsReady (theory_of c.args.algebra.now) c.loop-turn.nodes steps c.loop-turn.values c.loop-turn.uses)
    c.in-Some.ensures.popped c.loop-turn.invariant.ready

pub tidy-requires : goal.tidy-requires
tidy-requires c = record { ready = (c.in_ok-uses-in-Some.uses, c.in_ok-uses-in-Some.ensures.ready) }
