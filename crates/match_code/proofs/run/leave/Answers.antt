use Rattle.std.proofs.Common.{◌∷◌, ◌-◌, [], refl, sym, subst}
use Rattle.std.proofs.lemmas.Result.{err_from_is_err_and}
use Rattle.spec_core.specs.Lists.{Each}
use Rattle.spec_core.specs.Terms.{term_of}
use Rattle.spec_core.specs.Theories.{theory_of}
use Rattle.spec_core.proofs.Lists.{each_push}
use Rattle.match_code.specs.declared.memo.Entry.{Entry}
use Rattle.match_code.specs.Entries.{IsEntry}
use Rattle.match_code.specs.States.{IsState}
use Rattle.match_code.proofs.States.{state_stuck, state_closed, state_ended, at_equal, not_large}
use Rattle.match_code.proofs.run.leave.Goals as goal

pub returns-in_err-node-clause-cause : goal.returns-in_err-node-clause-cause
returns-in_err-node-clause-cause c =
    let theory = theory_of c.args.algebra.now in
    let t = term_of c.args.term.now in
    let runs = c.args.runs.now in
    let s = subst (λ todo. IsState theory t c.args.budget c.args.store.now.nodes runs.frames todo runs.values runs.uses) c.requires.done
    c.requires.stands.state in
    let p = err_from_is_err_and c.from_residual.result c.from_residual.ensures.1 in
    rw (p.1, p.2)
    (record {
      spent = λ e. state_stuck theory c.requires.executable t c.args.budget c.args.store.now.nodes runs.frames runs.values runs.uses s
          c.in_err-node.ensures.spent;
      large = λ e. absurd (not_large _ c.in_err-node.ensures.fault e);
    })

pub close-requires : goal.close-requires
close-requires c =
    let theory = theory_of c.args.algebra.now in
    let t = term_of c.args.term.now in
    let runs = c.args.runs.now in
    let rows = c.args.store.now.nodes in
    let n = c.in_ok-node.node in
    let s = at_equal theory t c.args.budget rows runs.frames (c.in-Some.frame ∷ c.pop.new.self) runs.todo [] runs.values (n ∷ []) runs.uses
    runs.uses c.requires.stands.state (sym c.in-Some.ensures.popped) (sym c.requires.done) (sym c.in_ok-node.ensures.one) refl in
    record { later = (state_closed theory c.requires.executable t c.args.budget rows c.in-Some.frame c.pop.new.self n runs.uses s).0 }

pub returns-in-None-clause-ended : goal.returns-in-None-clause-ended
returns-in-None-clause-ended c =
    let theory = theory_of c.args.algebra.now in
    let t = term_of c.args.term.now in
    let runs = c.args.runs.now in
    let rows = c.args.store.now.nodes in
    let n = c.in_ok-node.node in
    let s = at_equal theory t c.args.budget rows runs.frames [] runs.todo [] runs.values (n ∷ []) runs.uses runs.uses c.requires.stands.state
    (sym c.in-None.ensures.popped.0) (sym c.requires.done) (sym c.in_ok-node.ensures.one) refl in
    state_ended theory c.requires.executable t c.args.budget rows n runs.uses s

pub returns-in_ok-close-in-Some-clause-stands : goal.returns-in_ok-close-in-Some-clause-stands
returns-in_ok-close-in-Some-clause-stands c =
    let theory = theory_of c.args.algebra.now in
    let t = term_of c.args.term.now in
    let runs = c.args.runs.now in
    let rows = c.args.store.now.nodes in
    let n = c.in_ok-node.node in
    let frame = c.in-Some.frame in
    let s = at_equal theory t c.args.budget rows runs.frames (frame ∷ c.pop.new.self) runs.todo [] runs.values (n ∷ []) runs.uses
    runs.uses c.requires.stands.state (sym c.in-Some.ensures.popped) (sym c.requires.done) (sym c.in_ok-node.ensures.one) refl in
    let k = state_closed theory c.requires.executable t c.args.budget rows frame c.pop.new.self n runs.uses s in
    let made = c.in_ok-close-in-Some.ensures in
    let entry : Entry = record { op = frame.op; args = frame.args; value = n; uses = runs.uses - frame.start } in
    record {
      state = at_equal theory t c.args.budget rows c.pop.new.self c.close.new.runs.frames frame.todo c.close.new.runs.todo
          (n ∷ frame.values) c.close.new.runs.values runs.uses c.close.new.runs.uses k.2 made.frames made.todo made.values made.uses;
      remembers = subst (Each (IsEntry theory rows)) (sym made.remembered)
          (each_push (IsEntry theory rows) c.args.store.now.memo.entries.items entry c.requires.stands.remembers k.1);
    }

pub returns-in_ok-close-in-Some-clause-store : goal.returns-in_ok-close-in-Some-clause-store
returns-in_ok-close-in-Some-clause-store c =
    let theory = theory_of c.args.algebra.now in
    let t = term_of c.args.term.now in
    let runs = c.args.runs.now in
    let rows = c.args.store.now.nodes in
    let n = c.in_ok-node.node in
    let frame = c.in-Some.frame in
    let s = at_equal theory t c.args.budget rows runs.frames (frame ∷ c.pop.new.self) runs.todo [] runs.values (n ∷ []) runs.uses
    runs.uses c.requires.stands.state (sym c.in-Some.ensures.popped) (sym c.requires.done) (sym c.in_ok-node.ensures.one) refl in
    let k = state_closed theory c.requires.executable t c.args.budget rows frame c.pop.new.self n runs.uses s in
    let entry : Entry = record { op = frame.op; args = frame.args; value = n; uses = runs.uses - frame.start } in
    record {
      own = s.ready.own;
      small = s.ready.small;
      remembers = subst (Each (IsEntry theory rows)) (sym c.in_ok-close-in-Some.ensures.remembered)
          (each_push (IsEntry theory rows) c.args.store.now.memo.entries.items entry c.requires.stands.remembers k.1);
    }
