use Rattle.std.proofs.Common.{suc, arith}
use Rattle.std.proofs.lemmas.Result.{IfErr-weaker, IfOk-weaker}
use Rattle.spec_core.specs.Theories.{theory_of, Heads}
use Rattle.rewriter.specs.Steps.{equation_at}
use Rattle.rewriter.specs.Calls.{arguments_of}
use Rattle.rewriter.proofs.Moves.{keep_on, exceeds_before}
use Rattle.rewriter.proofs.Calls.{decided_fails, pending_skips, match_heads}
use Rattle.rewriter.proofs.Calling.{calling_fails, calling_skips}
use Rattle.rewriter.proofs.call.fail.Goals as goal

pub returns-clause-kept : goal.returns-clause-kept
returns-clause-kept c =
    let t = theory_of c.args.algebra.now in
    let f = c.head_of-count.result.0.0 in
    let hd : Heads f (equation_at t c.args.place) = (c.head_of-count.ensures.call.0, c.head_of-count.ensures.call.1) in
    let p = pending_skips t c.args.nodes.now
    (suc c.args.place) c.after-from.result f c.head_of-count.result.1 c.args.todo.now c.args.values.now c.args.uses
    (omega (arith, c.after-from.ensures.onward))
    (λ j x y m s q. c.after-from.ensures.skipped f j (omega (arith, x)) y m hd
    (match_heads t c.requires.executable j f (arguments_of c.args.nodes.now c.head_of-count.result.1 c.args.values.now) s m q)) in
    IfOk-weaker c.try_from.result _ _ (λ u k next a b differ. keep_on c.args.uses c.args.uses u
    (decided_fails t c.requires.executable c.args.nodes.now c.args.place next c.head_of-count.result.0.0 c.head_of-count.result.1
    c.args.todo.now c.args.values.now a b c.args.start c.requires.there c.head_of-count.ensures.call c.args.uses differ)
    (keep_on c.args.uses c.args.uses u p k)) c.try_from.ensures.kept

pub returns-clause-spent : goal.returns-clause-spent
returns-clause-spent c =
    let t = theory_of c.args.algebra.now in
    let f = c.head_of-count.result.0.0 in
    let hd : Heads f (equation_at t c.args.place) = (c.head_of-count.ensures.call.0, c.head_of-count.ensures.call.1) in
    let p = pending_skips t c.args.nodes.now
    (suc c.args.place) c.after-from.result f c.head_of-count.result.1 c.args.todo.now c.args.values.now c.args.uses
    (omega (arith, c.after-from.ensures.onward))
    (λ j x y m s q. c.after-from.ensures.skipped f j (omega (arith, x)) y m hd
    (match_heads t c.requires.executable j f (arguments_of c.args.nodes.now c.head_of-count.result.1 c.args.values.now) s m q)) in
    IfErr-weaker c.try_from.result _ _ (λ e k s next a b differ. exceeds_before c.args.uses c.args.uses c.args.budget
    (keep_on c.args.uses c.args.uses c.args.uses
    (decided_fails t c.requires.executable c.args.nodes.now c.args.place next c.head_of-count.result.0.0 c.head_of-count.result.1
    c.args.todo.now c.args.values.now a b c.args.start c.requires.there c.head_of-count.ensures.call c.args.uses differ) p) (k s))
    c.try_from.ensures.spent

pub returns-clause-large : goal.returns-clause-large
returns-clause-large c =
    let t = theory_of c.args.algebra.now in
    let f = c.head_of-count.result.0.0 in
    let hd : Heads f (equation_at t c.args.place) = (c.head_of-count.ensures.call.0, c.head_of-count.ensures.call.1) in
    let p = pending_skips t c.args.nodes.now
    (suc c.args.place) c.after-from.result f c.head_of-count.result.1 c.args.todo.now c.args.values.now c.args.uses
    (omega (arith, c.after-from.ensures.onward))
    (λ j x y m s q. c.after-from.ensures.skipped f j (omega (arith, x)) y m hd
    (match_heads t c.requires.executable j f (arguments_of c.args.nodes.now c.head_of-count.result.1 c.args.values.now) s m q)) in
    IfErr-weaker c.try_from.result _ _ (λ e k s next a b differ.
    let l = k s in
    let d = decided_fails t c.requires.executable c.args.nodes.now c.args.place next c.head_of-count.result.0.0 c.head_of-count.result.1
    c.args.todo.now c.args.values.now a b c.args.start c.requires.there c.head_of-count.ensures.call c.args.uses differ in
    (l.0, d.met l.0 (p.met l.0 l.1), l.2)) c.try_from.ensures.large

pub try_from-requires-clause-calling : goal.try_from-requires-clause-calling
try_from-requires-clause-calling c =
    let t = theory_of c.args.algebra.now in
    let f = c.head_of-count.result.0.0 in
    let hd : Heads f (equation_at t c.args.place) = (c.head_of-count.ensures.call.0, c.head_of-count.ensures.call.1) in
    let h = c.requires.calling f c.head_of-count.result.1 c.head_of-count.ensures.call in
    calling_skips t c.args.nodes.now f c.head_of-count.result.1 c.args.start (suc c.args.place) c.after-from.result c.args.todo.now
    c.args.values.now c.args.uses (omega (arith, c.after-from.ensures.onward))
    (λ j x y m s q. c.after-from.ensures.skipped f j (omega (arith, x)) y m hd
    (match_heads t c.requires.executable j f (arguments_of c.args.nodes.now c.head_of-count.result.1 c.args.values.now) s m q))
    (calling_fails t c.requires.executable c.args.nodes.now f c.head_of-count.result.1 c.args.start c.args.place h.0 c.args.todo.now
    h.1 h.2 c.args.values.now c.args.uses c.requires.there h.3 h.4)
