use Rattle.std.proofs.Common.{◌≡◌, refl, sym, subst}
use Rattle.std.proofs.lemmas.Result.{IfErr-weaker, IfOk-weaker}
use Rattle.spec_core.specs.Theories.{theory_of}
use Rattle.value_nodes.specs.Nodes.{tree_at}
use Rattle.rewriter.specs.Machine.{Keeps, Exceeds}
use Rattle.rewriter.specs.Runs.{Coming}
use Rattle.rewriter.specs.Calls.{Decided}
use Rattle.rewriter.proofs.Moves.{keep_on, exceeds_before}
use Rattle.rewriter.proofs.Loop.{not_both}
use Rattle.rewriter.proofs.Calls.{chosen}
use Rattle.rewriter.proofs.Calling.{decides_call}
use Rattle.rewriter.proofs.call.decide.Goals as goal

pub returns-then-branch-clause-kept : goal.returns-then-branch-clause-kept
returns-then-branch-clause-kept c =
    let t = theory_of c.args.algebra.now in
    let p = chosen t c.args.nodes.now c.args.place c.args.next c.args.start c.args.todo.now c.args.values.now c.pop.new.self c.pop-in-Some.new.self
    c.in-Some-pop.left c.in-Some.right c.args.uses c.in-Some.ensures.popped c.in-Some-pop.ensures.popped in
    let alike : tree_at c.args.nodes.now c.in-Some-pop.left ≡ tree_at c.args.nodes.now c.in-Some.right =
    c.in_ok-same_value-in-Some-pop.ensures.decides.0 c.if-branch.true in
    IfOk-weaker c.hold.result _ _ (λ u k. keep_on c.args.uses c.args.uses u p
    (subst (λ v. Keeps (Decided t c.args.nodes.now c.args.place c.args.next c.args.start v
    (tree_at c.args.nodes.now c.in-Some.right) c.args.todo.now c.pop-in-Some.new.self) c.args.uses
    (Coming t c.args.nodes.now c.hold.new.todo c.hold.new.values) u) (sym alike) (k (tree_at c.args.nodes.now c.in-Some.right))))
    c.hold.ensures.kept

pub returns-then-branch-clause-spent : goal.returns-then-branch-clause-spent
returns-then-branch-clause-spent c =
    let t = theory_of c.args.algebra.now in
    let p = chosen t c.args.nodes.now c.args.place c.args.next c.args.start c.args.todo.now c.args.values.now c.pop.new.self c.pop-in-Some.new.self
    c.in-Some-pop.left c.in-Some.right c.args.uses c.in-Some.ensures.popped c.in-Some-pop.ensures.popped in
    let alike : tree_at c.args.nodes.now c.in-Some-pop.left ≡ tree_at c.args.nodes.now c.in-Some.right =
    c.in_ok-same_value-in-Some-pop.ensures.decides.0 c.if-branch.true in
    IfErr-weaker c.hold.result _ _ (λ e k s. exceeds_before c.args.uses c.args.uses c.args.budget p
    (subst (λ v. Exceeds (Decided t c.args.nodes.now c.args.place c.args.next c.args.start v
    (tree_at c.args.nodes.now c.in-Some.right) c.args.todo.now c.pop-in-Some.new.self) c.args.uses c.args.budget) (sym alike)
    (k s (tree_at c.args.nodes.now c.in-Some.right)))) c.hold.ensures.spent

pub returns-else-branch-clause-kept : goal.returns-else-branch-clause-kept
returns-else-branch-clause-kept c =
    let t = theory_of c.args.algebra.now in
    let p = chosen t c.args.nodes.now c.args.place c.args.next c.args.start c.args.todo.now c.args.values.now c.pop.new.self c.pop-in-Some.new.self
    c.in-Some-pop.left c.in-Some.right c.args.uses c.in-Some.ensures.popped c.in-Some-pop.ensures.popped in
    let differ : tree_at c.args.nodes.now c.in-Some-pop.left ≡ tree_at c.args.nodes.now c.in-Some.right →
    ⊥ = λ e. not_both c.in_ok-same_value-in-Some-pop.field-0 (c.in_ok-same_value-in-Some-pop.ensures.decides.1 e) c.if-branch.false in
    IfOk-weaker c.fail.result _ _ (λ u k. keep_on c.args.uses c.args.uses u p
    (k c.args.next (tree_at c.args.nodes.now c.in-Some-pop.left) (tree_at c.args.nodes.now c.in-Some.right) differ))
    c.fail.ensures.kept

pub returns-else-branch-clause-spent : goal.returns-else-branch-clause-spent
returns-else-branch-clause-spent c =
    let t = theory_of c.args.algebra.now in
    let p = chosen t c.args.nodes.now c.args.place c.args.next c.args.start c.args.todo.now c.args.values.now c.pop.new.self c.pop-in-Some.new.self
    c.in-Some-pop.left c.in-Some.right c.args.uses c.in-Some.ensures.popped c.in-Some-pop.ensures.popped in
    let differ : tree_at c.args.nodes.now c.in-Some-pop.left ≡ tree_at c.args.nodes.now c.in-Some.right →
    ⊥ = λ e. not_both c.in_ok-same_value-in-Some-pop.field-0 (c.in_ok-same_value-in-Some-pop.ensures.decides.1 e) c.if-branch.false in
    IfErr-weaker c.fail.result _ _ (λ e k s. exceeds_before c.args.uses c.args.uses c.args.budget p
    (k s c.args.next (tree_at c.args.nodes.now c.in-Some-pop.left) (tree_at c.args.nodes.now c.in-Some.right) differ))
    c.fail.ensures.spent

pub returns-then-branch-clause-large : goal.returns-then-branch-clause-large
returns-then-branch-clause-large c = IfErr-weaker c.hold.result _ _ (λ e k s. absurd (k s)) c.hold.ensures.small

pub returns-else-branch-clause-large : goal.returns-else-branch-clause-large
returns-else-branch-clause-large c =
    let t = theory_of c.args.algebra.now in
    let p = chosen t c.args.nodes.now c.args.place c.args.next c.args.start c.args.todo.now c.args.values.now c.pop.new.self
    c.pop-in-Some.new.self c.in-Some-pop.left c.in-Some.right c.args.uses c.in-Some.ensures.popped c.in-Some-pop.ensures.popped in
    let differ : tree_at c.args.nodes.now c.in-Some-pop.left ≡ tree_at c.args.nodes.now c.in-Some.right →
    ⊥ = λ e. not_both c.in_ok-same_value-in-Some-pop.field-0 (c.in_ok-same_value-in-Some-pop.ensures.decides.1 e) c.if-branch.false in
    IfErr-weaker c.fail.result _ _ (λ e k s.
    let l = k s c.args.next (tree_at c.args.nodes.now c.in-Some-pop.left) (tree_at c.args.nodes.now c.in-Some.right) differ in
    (l.0, p.met l.0 l.1, l.2)) c.fail.ensures.large

pub hold-requires-clause-calling : goal.hold-requires-clause-calling
hold-requires-clause-calling c = λ f k head.
    let t = theory_of c.args.algebra.now in
    let alike : tree_at c.args.nodes.now c.in-Some-pop.left ≡ tree_at c.args.nodes.now c.in-Some.right =
    c.in_ok-same_value-in-Some-pop.ensures.decides.0 c.if-branch.true in (
      tree_at c.args.nodes.now c.in-Some.right,
      decides_call t c.requires.executable c.args.nodes.now f k c.args.start c.args.place c.args.next c.args.todo.now
          (tree_at c.args.nodes.now c.in-Some.right) (tree_at c.args.nodes.now c.in-Some.right) c.pop-in-Some.new.self c.args.uses
          c.requires.there c.in-Some-pop.left c.in-Some.right c.args.values.now c.pop.new.self c.in-Some.ensures.popped
          c.in-Some-pop.ensures.popped head alike refl c.requires.ready,
    )

pub fail-requires-clause-calling : goal.fail-requires-clause-calling
fail-requires-clause-calling c = λ f k head.
    let t = theory_of c.args.algebra.now in
    let differ : tree_at c.args.nodes.now c.in-Some-pop.left ≡ tree_at c.args.nodes.now c.in-Some.right →
    ⊥ = λ e. not_both c.in_ok-same_value-in-Some-pop.field-0 (c.in_ok-same_value-in-Some-pop.ensures.decides.1 e) c.if-branch.false in (
      c.args.next,
      tree_at c.args.nodes.now c.in-Some-pop.left,
      tree_at c.args.nodes.now c.in-Some.right,
      differ,
      decides_call t c.requires.executable c.args.nodes.now f k c.args.start c.args.place c.args.next c.args.todo.now
          (tree_at c.args.nodes.now c.in-Some-pop.left) (tree_at c.args.nodes.now c.in-Some.right) c.pop-in-Some.new.self c.args.uses
          c.requires.there c.in-Some-pop.left c.in-Some.right c.args.values.now c.pop.new.self c.in-Some.ensures.popped
          c.in-Some-pop.ensures.popped head refl refl c.requires.ready,
    )
