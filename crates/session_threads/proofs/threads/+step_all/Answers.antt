use Rattle.std.proofs.Common.{◌≡◌, ◌∙◌, [], append-nil, arith, subst, sym}
use Rattle.std.proofs.lemmas.List.{nil_from_length}
use Rattle.spec_core.specs.Lists.{Each}
use Rattle.session_threads.specs.Started.{AreStarted, IsFit, IsHereDone}
use Rattle.session_threads.proofs.Spawning.{each_before, each_behind, stays_behind}
use Rattle.session_threads.proofs.threads.+step_all.Goals as goal

pub step_one-requires : goal.step_one-requires
step_one-requires g t c = record {
  fit =
      (each_before (IsFit c.args.session.now) c.pop.new.self.items c.in-Some.last
      (subst (Each (IsFit c.args.session.now)) c.in-Some.ensures.items c.requires.fit)).1;
}

pub returns-in-None-clause-fit : goal.returns-in-None-clause-fit
returns-in-None-clause-fit g t c =
    subst (Each (IsFit c.args.session.now)) (c.in-None.ensures.items ∙ append-nil c.pop.new.self.items) c.requires.fit

pub returns-in-None-clause-over : goal.returns-in-None-clause-over
returns-in-None-clause-over g t c =
    let now = c.pop.new.self.items in
    let none : now ≡ [] = nil_from_length now (omega (arith, c.in-None.ensures.cases.1)) in
    λ e. subst (Each IsHereDone) (sym none) tt

pub returns-in_ok-push-in-Some-clause-started : goal.returns-in_ok-push-in-Some-clause-started
returns-in_ok-push-in-Some-clause-started g t c =
    λ rows h.
    subst (AreStarted rows) (sym c.in_ok-push-in-Some.ensures.items)
    (stays_behind c.pop.new.self.items c.step_all.new.started.items c.in-Some.last c.in_ok-last-in-Some.last
    c.in_ok-others-in-Some.ensures.started c.in_ok-last-in-Some.ensures.started rows (subst (AreStarted rows) c.in-Some.ensures.items h))

pub returns-in_ok-push-in-Some-clause-fit : goal.returns-in_ok-push-in-Some-clause-fit
returns-in_ok-push-in-Some-clause-fit g t c =
    let s = c.args.session.now in
    subst (Each (IsFit s)) (sym c.in_ok-push-in-Some.ensures.items)
    (each_behind (IsFit s) c.step_all.new.started.items c.in_ok-last-in-Some.last c.in_ok-others-in-Some.ensures.fit
    c.in_ok-last-in-Some.ensures.fit)

pub returns-in_ok-push-in-Some-clause-over : goal.returns-in_ok-push-in-Some-clause-over
returns-in_ok-push-in-Some-clause-over g t c =
    λ e.
    let both = c.and.ensures e in
    subst (Each IsHereDone) (sym c.in_ok-push-in-Some.ensures.items)
    (each_behind IsHereDone c.step_all.new.started.items c.in_ok-last-in-Some.last (c.in_ok-others-in-Some.ensures.over both.0)
    (c.in_ok-last-in-Some.ensures.over both.1))
