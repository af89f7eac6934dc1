use Rattle.std.proofs.Common.{rules, ◌≡◌, ◌<◌, ◌≤◌, length, subst, arith}
use Rattle.std.proofs.lemmas.Result.{err_from_is_err_and, IfErr-weaker, IfOk-weaker}
use Rattle.spec_core.specs.Theories.{theory_of}
use Rattle.rewriter.proofs.Moves.{keep_on, exceeds_before}
use Rattle.rewriter.proofs.Calls.{pending_skips, pending_found, pending_stays, pending_large, counted}
use Rattle.rewriter.proofs.Calling.{calling_skips, calling_asked, calling_stays, calling_built}
use Rattle.rewriter.proofs.Arities.{short_stays}
use Rattle.rewriter.specs.Calls.{arguments_of}
use Rattle.value_nodes.specs.Own.{StaysOver}
use Rattle.rewriter.proofs.call.try_from.Goals as goal

pub returns-then-place-len-clause-kept : goal.returns-then-place-len-clause-kept
returns-then-place-len-clause-kept c =
    let t = theory_of c.args.algebra.now in
    let p = pending_skips t c.args.nodes.now c.args.from c.find-place.result c.args.op.0 c.args.count c.args.todo.now c.args.values.now
    c.args.uses c.find-place.ensures.onward c.find-place.ensures.skipped in
    let few : c.find-place.result < length c.args.algebra.now.equations.items = search rules in
    let h : c.find-place.result < length (theory_of c.args.algebra.now).equations = omega (arith, few, counted c.args.algebra.now) in
    let q = pending_found t c.requires.executable c.args.nodes.now c.find-place.result c.args.op.0 c.args.count c.args.todo.now
    c.args.values.now c.find-place.new.bound c.args.uses h (c.find-place.ensures.found h) in
    IfOk-weaker c.ask.result _ _ (λ u k. keep_on c.args.uses c.args.uses u p (keep_on c.args.uses c.args.uses u q k)) c.ask.ensures.kept

pub returns-then-place-len-clause-spent : goal.returns-then-place-len-clause-spent
returns-then-place-len-clause-spent c =
    let t = theory_of c.args.algebra.now in
    let p = pending_skips t c.args.nodes.now c.args.from c.find-place.result c.args.op.0 c.args.count c.args.todo.now c.args.values.now
    c.args.uses c.find-place.ensures.onward c.find-place.ensures.skipped in
    let few : c.find-place.result < length c.args.algebra.now.equations.items = search rules in
    let h : c.find-place.result < length (theory_of c.args.algebra.now).equations = omega (arith, few, counted c.args.algebra.now) in
    let q = pending_found t c.requires.executable c.args.nodes.now c.find-place.result c.args.op.0 c.args.count c.args.todo.now
    c.args.values.now c.find-place.new.bound c.args.uses h (c.find-place.ensures.found h) in
    IfErr-weaker c.ask.result _ _ (λ e k s. exceeds_before c.args.uses c.args.uses c.args.budget
    (keep_on c.args.uses c.args.uses c.args.uses p q) (k s)) c.ask.ensures.spent

pub ask-requires-clause-calling : goal.ask-requires-clause-calling
ask-requires-clause-calling c =
    let t = theory_of c.args.algebra.now in
    let few : c.find-place.result < length c.args.algebra.now.equations.items = search rules in
    let h : c.find-place.result < length (theory_of c.args.algebra.now).equations = omega (arith, few, counted c.args.algebra.now) in
    calling_asked t c.requires.executable c.args.nodes.now c.find-place.new.bound c.args.op.0 c.args.count c.args.start
    c.find-place.result c.args.todo.now c.args.values.now c.args.uses h (c.find-place.ensures.found h)
    (calling_skips t c.args.nodes.now c.args.op.0 c.args.count c.args.start c.args.from c.find-place.result c.args.todo.now
    c.args.values.now c.args.uses c.find-place.ensures.onward c.find-place.ensures.skipped c.requires.calling)

pub returns-then-place-len-clause-large : goal.returns-then-place-len-clause-large
returns-then-place-len-clause-large c = IfErr-weaker c.ask.result _ _ (λ e k s. absurd (k s)) c.ask.ensures.small

pub build-requires : goal.build-requires
build-requires c =
    let t = theory_of c.args.algebra.now in
    let past : length c.args.algebra.now.equations.items ≤ c.find-place.result = search rules in
    let out : length (theory_of c.args.algebra.now).equations ≤ c.find-place.result = omega (arith, past, counted c.args.algebra.now) in
    let here = calling_skips t c.args.nodes.now c.args.op.0 c.args.count c.args.start c.args.from c.find-place.result c.args.todo.now
    c.args.values.now c.args.uses c.find-place.ensures.onward c.find-place.ensures.skipped c.requires.calling in
    let x = calling_stays t c.args.nodes.now c.args.op.0 c.args.count c.args.start c.find-place.result c.args.todo.now c.args.values.now
    c.args.uses out here in
    let own : x.0 ≡ c.saturating_sub.result = omega (arith, x.1, c.saturating_sub.ensures) in
    record {
      executable = c.requires.executable;
      values = c.requires.calling.values;
      own = c.requires.calling.own;
      stays = subst (StaysOver t c.args.op.0 (arguments_of c.args.nodes.now c.args.count c.args.values.now)) own x.2;
      short = short_stays t c.requires.executable c.args.op.0 c.args.count c.requires.calling.arity;
    }

pub returns-in_err-build-clause-large : goal.returns-in_err-build-clause-large
returns-in_err-build-clause-large c =
    let t = theory_of c.args.algebra.now in
    let past : length c.args.algebra.now.equations.items ≤ c.find-place.result = search rules in
    let out : length (theory_of c.args.algebra.now).equations ≤ c.find-place.result = omega (arith, past, counted c.args.algebra.now) in
    let q = pending_skips t c.args.nodes.now c.args.from c.find-place.result c.args.op.0 c.args.count c.args.todo.now c.args.values.now
    c.args.uses c.find-place.ensures.onward c.find-place.ensures.skipped in
    let p = err_from_is_err_and c.from_residual.result c.from_residual.ensures.1 in
    rw (p.1, p.2)
    (λ e.
    let l = pending_large t c.requires.executable c.args.nodes.now c.find-place.result c.args.op.0 c.args.count c.args.todo.now
    c.args.values.now out (c.in_err-build.ensures.large e) in
    (l.0, q.met l.0 l.1, l.2))

pub returns-in_ok-build-clause-ready : goal.returns-in_ok-build-clause-ready
returns-in_ok-build-clause-ready c =
    let t = theory_of c.args.algebra.now in
    let past : length c.args.algebra.now.equations.items ≤ c.find-place.result = search rules in
    let out : length (theory_of c.args.algebra.now).equations ≤ c.find-place.result = omega (arith, past, counted c.args.algebra.now) in
    let here = calling_skips t c.args.nodes.now c.args.op.0 c.args.count c.args.start c.args.from c.find-place.result c.args.todo.now
    c.args.values.now c.args.uses c.find-place.ensures.onward c.find-place.ensures.skipped c.requires.calling in
    calling_built t c.args.nodes.now c.args.op.0 c.args.count c.args.start c.find-place.result c.args.todo.now c.args.values.now
    c.args.uses out here c.build.new.nodes c.build.new.values c.in_ok-build.ensures.longer c.in_ok-build.ensures.values
    c.in_ok-build.ensures.own c.in_ok-build.ensures.all_small c.in_ok-build.ensures.small c.in_ok-build.ensures.built

pub returns-in_ok-build-clause-kept : goal.returns-in_ok-build-clause-kept
returns-in_ok-build-clause-kept c =
    let t = theory_of c.args.algebra.now in
    let past : length c.args.algebra.now.equations.items ≤ c.find-place.result = search rules in
    let out : length (theory_of c.args.algebra.now).equations ≤ c.find-place.result = omega (arith, past, counted c.args.algebra.now) in
    let q = pending_skips t c.args.nodes.now c.args.from c.find-place.result c.args.op.0 c.args.count c.args.todo.now c.args.values.now
    c.args.uses c.find-place.ensures.onward c.find-place.ensures.skipped in
    keep_on c.args.uses c.args.uses c.args.uses q
    (pending_stays t c.requires.executable c.args.nodes.now c.find-place.result c.args.op.0 c.args.count c.args.todo.now
    c.args.values.now c.build.new.nodes c.build.new.values c.args.uses out c.in_ok-build.ensures.small c.in_ok-build.ensures.longer
    c.requires.calling.steps c.in_ok-build.ensures.built)
