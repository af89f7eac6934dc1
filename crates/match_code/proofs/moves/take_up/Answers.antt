use Rattle.std.proofs.Common.{sym, ap, subst, ◌∙◌}
use Rattle.std.proofs.lemmas.Result.{err_from_is_err_and}
use Rattle.spec_core.specs.Lists.{Each}
use Rattle.spec_core.specs.Terms.{term_of}
use Rattle.spec_core.specs.Theories.{theory_of}
use Rattle.match_code.specs.Entries.{IsEntry, IsRemembered}
use Rattle.match_code.proofs.States.{state_used, state_refused, at_equal}
use Rattle.match_code.proofs.moves.take_up.Goals as goal

pub rewrite-requires-clause-stands : goal.rewrite-requires-clause-stands
rewrite-requires-clause-stands c =
    let t = theory_of c.args.algebra.now in
    let begun = c.in_ok-begin-in-None.ensures in
    let s = begun.stands t (term_of c.args.term.now) c.args.budget c.args.store.now c.requires.forms.executable c.requires.stands in
    record {
      state = s.state;
      remembers = subst (Each (IsEntry t c.args.store.now.nodes)) (sym (ap (λ es. es.items) (begun.entries ∙ c.find.ensures.same)))
          s.remembers;
    }

pub returns-in_ok-use_known-in-Some-clause-stands : goal.returns-in_ok-use_known-in-Some-clause-stands
returns-in_ok-use_known-in-Some-clause-stands c =
    let theory = theory_of c.args.algebra.now in
    let t = term_of c.args.term.now in
    let rows = c.args.store.now.nodes in
    let runs = c.args.runs.now in
    let known = c.in-Some.known in
    let r = subst (λ args. IsRemembered theory rows c.args.op.0 args known.value known.uses) c.top.ensures.seen
    (c.in-Some.ensures.known theory rows c.requires.stands.remembers) in
    let made = c.in_ok-use_known-in-Some.ensures in
    record {
      state = at_equal theory t c.args.budget rows runs.frames c.use_known.new.runs.frames runs.todo c.use_known.new.runs.todo _
          c.use_known.new.runs.values _ c.use_known.new.runs.uses
          (state_used theory c.requires.forms.executable t c.args.budget rows runs.frames c.args.op c.args.count runs.todo runs.values runs.uses
          c.requires.stands.state known.value known.uses r made.within)
          made.frames made.todo made.values made.uses;
      remembers = subst (Each (IsEntry theory rows)) (sym (ap (λ es. es.items) c.find.ensures.same)) c.requires.stands.remembers;
    }

pub returns-in_err-use_known-in-Some-clause-cause : goal.returns-in_err-use_known-in-Some-clause-cause
returns-in_err-use_known-in-Some-clause-cause c =
    let theory = theory_of c.args.algebra.now in
    let t = term_of c.args.term.now in
    let rows = c.args.store.now.nodes in
    let runs = c.args.runs.now in
    let known = c.in-Some.known in
    let r = subst (λ args. IsRemembered theory rows c.args.op.0 args known.value known.uses) c.top.ensures.seen
    (c.in-Some.ensures.known theory rows c.requires.stands.remembers) in
    let p = err_from_is_err_and c.from_residual.result c.from_residual.ensures.1 in
    rw (p.1, p.2)
    (record {
      spent = λ e. state_refused theory c.requires.forms.executable t c.args.budget rows runs.frames c.args.op c.args.count runs.todo runs.values
          runs.uses c.requires.stands.state known.value known.uses r (c.in_err-use_known-in-Some.ensures.spent e);
      large = λ e. absurd (c.in_err-use_known-in-Some.ensures.small e);
    })
