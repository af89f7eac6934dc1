use Rattle.std.proofs.Common.{arith}
use Rattle.std.proofs.lemmas.Result.{IfErr-weaker, IfOk-weaker}
use Rattle.spec_core.specs.Theories.{theory_of}
use Rattle.rewriter.specs.Calls.{arguments_of}
use Rattle.rewriter.proofs.Moves.{keep_on, exceeds_before}
use Rattle.rewriter.proofs.Calls.{pending_skips, match_heads}
use Rattle.rewriter.proofs.Calling.{begins_call, calling_skips}
use Rattle.rewriter.proofs.call.call.Goals as goal

pub try_from-requires-clause-calling : goal.try_from-requires-clause-calling
try_from-requires-clause-calling c =
    let t = theory_of c.args.algebra.now in
    calling_skips t c.args.nodes.now c.args.op.0 c.args.count c.args.uses 0 c.first-place.result c.args.todo.now c.args.values.now
    c.args.uses (omega arith)
    (λ j a b m s q. c.first-place.ensures.skipped j b m
    (match_heads t c.requires.executable j c.args.op.0 (arguments_of c.args.nodes.now c.args.count c.args.values.now) s m q))
    (begins_call t c.args.nodes.now c.args.op c.args.count c.args.todo.now c.args.values.now c.args.uses c.requires.ready)

pub returns-clause-kept : goal.returns-clause-kept
returns-clause-kept c =
    let t = theory_of c.args.algebra.now in
    let p = pending_skips t c.args.nodes.now 0 c.first-place.result c.args.op.0 c.args.count c.args.todo.now c.args.values.now c.args.uses
    (omega arith) (λ j a b m s q. c.first-place.ensures.skipped j b m
    (match_heads t c.requires.executable j c.args.op.0 (arguments_of c.args.nodes.now c.args.count c.args.values.now) s m q)) in
    IfOk-weaker c.try_from.result _ _ (λ u k. keep_on c.args.uses c.args.uses u p k) c.try_from.ensures.kept

pub returns-clause-spent : goal.returns-clause-spent
returns-clause-spent c =
    let t = theory_of c.args.algebra.now in
    let p = pending_skips t c.args.nodes.now 0 c.first-place.result c.args.op.0 c.args.count c.args.todo.now c.args.values.now c.args.uses
    (omega arith) (λ j a b m s q. c.first-place.ensures.skipped j b m
    (match_heads t c.requires.executable j c.args.op.0 (arguments_of c.args.nodes.now c.args.count c.args.values.now) s m q)) in
    IfErr-weaker c.try_from.result _ _ (λ e k s. exceeds_before c.args.uses c.args.uses c.args.budget p (k s)) c.try_from.ensures.spent

pub returns-clause-large : goal.returns-clause-large
returns-clause-large c =
    let t = theory_of c.args.algebra.now in
    let p = pending_skips t c.args.nodes.now 0 c.first-place.result c.args.op.0 c.args.count c.args.todo.now c.args.values.now c.args.uses
    (omega arith) (λ j a b m s q. c.first-place.ensures.skipped j b m
    (match_heads t c.requires.executable j c.args.op.0 (arguments_of c.args.nodes.now c.args.count c.args.values.now) s m q)) in
    IfErr-weaker c.try_from.result _ _ (λ e k s. let l = k s in (l.0, p.met l.0 l.1, l.2)) c.try_from.ensures.large
