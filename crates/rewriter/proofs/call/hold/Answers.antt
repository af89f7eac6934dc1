use Rattle.std.proofs.Common.{refl}
use Rattle.std.proofs.lemmas.Result.{IfErr-weaker, IfOk-weaker}
use Rattle.spec_core.specs.Theories.{theory_of}
use Rattle.rewriter.proofs.Moves.{keep_on, exceeds_before}
use Rattle.rewriter.proofs.Calls.{decided_holds}
use Rattle.rewriter.proofs.Calling.{calling_holds}
use Rattle.rewriter.proofs.call.hold.Goals as goal

pub returns-then-fits-clause-kept : goal.returns-then-fits-clause-kept
returns-then-fits-clause-kept c =
    let t = theory_of c.args.algebra.now in
    let m = c.fits.ensures.yes c.if-fits.true in
    IfOk-weaker c.ask.result _ _ (λ u k a. keep_on c.args.uses c.args.uses u
    (decided_holds t c.requires.executable c.args.nodes.now c.args.place c.args.next c.head_of-count.result.0.0
    c.head_of-count.result.1 c.args.todo.now c.args.values.now a a c.args.start c.requires.there c.head_of-count.ensures.call c.fits.new.bound
    c.args.uses m refl) k) c.ask.ensures.kept

pub returns-then-fits-clause-spent : goal.returns-then-fits-clause-spent
returns-then-fits-clause-spent c =
    let t = theory_of c.args.algebra.now in
    let m = c.fits.ensures.yes c.if-fits.true in
    IfErr-weaker c.ask.result _ _ (λ e k s a. exceeds_before c.args.uses c.args.uses c.args.budget
    (decided_holds t c.requires.executable c.args.nodes.now c.args.place c.args.next c.head_of-count.result.0.0
    c.head_of-count.result.1 c.args.todo.now c.args.values.now a a c.args.start c.requires.there c.head_of-count.ensures.call c.fits.new.bound
    c.args.uses m refl) (k s)) c.ask.ensures.spent

pub ask-requires-clause-calling : goal.ask-requires-clause-calling
ask-requires-clause-calling c =
    let t = theory_of c.args.algebra.now in
    let m = c.fits.ensures.yes c.if-fits.true in
    let h = c.requires.calling c.head_of-count.result.0.0 c.head_of-count.result.1 c.head_of-count.ensures.call in
    calling_holds t c.requires.executable c.args.nodes.now c.head_of-count.result.0.0 c.head_of-count.result.1 c.args.start c.args.place
    c.args.next c.args.todo.now h.0 h.0 c.args.values.now c.args.uses c.requires.there c.fits.new.bound m refl h.1
