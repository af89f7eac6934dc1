use Rattle.std.proofs.Common.{rules, ◌≤◌, map, length, sym, ap, subst, ◌∙◌, arith}
use Rattle.std.proofs.lemmas.List.{length-map}
use Rattle.spec_core.specs.Lists.{Each}
use Rattle.spec_core.specs.Terms.{Occurs}
use Rattle.spec_core.specs.Theories.{theory_of, premise_of}
use Rattle.value_nodes.specs.Nodes.{tree_at, IsNode}
use Rattle.rewriter.specs.Machine.{plan}
use Rattle.rewriter.specs.Steps.{equation_at, put_by, task_of, AreWithinArity}
use Rattle.rewriter.proofs.Arities.{right_arities}
use Rattle.rewriter.proofs.Calling.{calling_asks, calling_uses}
use Rattle.rewriter.proofs.Tops.{each_under, drop_map}
use Rattle.rewriter.proofs.Calls.{wanting_asks, wanting_uses, wanting_spent, right_nodes}
use Rattle.rewriter.proofs.call.ask.Goals as goal

pub returns-then-next-len-clause-kept : goal.returns-then-next-len-clause-kept
returns-then-next-len-clause-kept c =
    wanting_asks (theory_of c.args.algebra.now) c.requires.executable c.args.nodes.now c.args.bound.now c.args.place c.args.next
    c.args.op.0 c.args.count c.args.todo.now c.args.values.now c.requires.there c.requires.fit c.push_premise.new.todo c.args.start
    c.args.uses (c.in_ok-push_premise.ensures.planned c.args.nodes.now)

pub returns-then-next-len-clause-ready : goal.returns-then-next-len-clause-ready
returns-then-next-len-clause-ready c =
    calling_asks (theory_of c.args.algebra.now) c.requires.executable c.args.nodes.now c.args.bound.now c.args.op.0 c.args.count
    c.args.start c.args.place c.args.next c.args.todo.now c.args.values.now c.args.uses c.requires.there c.requires.fit
    c.requires.calling c.push_premise.new.todo (c.in_ok-push_premise.ensures.planned c.args.nodes.now)
    (c.in_ok-push_premise.ensures.steps c.args.nodes.now c.requires.fit.nodes c.requires.calling.steps)

pub returns-then-uses-budget-clause-spent : goal.returns-then-uses-budget-clause-spent
returns-then-uses-budget-clause-spent c =
    let t = theory_of c.args.algebra.now in
    let few : length c.numbered-equation.result.now.premises.items ≤ c.args.next = search rules in
    let size = ap (λ d. length d.premises) c.numbered-equation.ensures.same in
    let last : length (equation_at t c.args.place).premises ≤ c.args.next =
    omega (arith, few, size, length-map c.numbered-equation.result.now.premises.items premise_of) in
    let none : c.args.budget ≤ c.args.uses = search rules in
    λ e. wanting_spent t c.requires.executable c.args.nodes.now c.args.bound.now c.args.place c.args.next c.args.op.0 c.args.count
    c.args.todo.now c.args.values.now c.requires.there c.requires.fit c.args.uses c.args.budget last none c.requires.within

pub returns-clause-ready : goal.returns-clause-ready
returns-clause-ready c =
    let t = theory_of c.args.algebra.now in
    let few : length c.numbered-equation.result.now.premises.items ≤ c.args.next = search rules in
    let size = ap (λ d. length d.premises) c.numbered-equation.ensures.same in
    let last : length (equation_at t c.args.place).premises ≤ c.args.next =
    omega (arith, few, size, length-map c.numbered-equation.result.now.premises.items premise_of) in
    let right = ap (λ d. d.right) c.numbered-equation.ensures.same in
    calling_uses t c.requires.executable c.args.nodes.now c.args.bound.now c.args.op.0 c.args.count c.args.start c.args.place c.args.next
    c.args.todo.now c.args.values.now c.args.uses c.requires.there c.requires.fit c.requires.calling c.push_instance.new.todo
    c.forget.new.self last
    (c.in_ok-push_instance.ensures.planned t c.args.nodes.now ∙ ap
    (λ r. plan (put_by c.args.nodes.now c.args.bound.now) r (map (task_of t c.args.nodes.now) c.args.todo.now)) right)
    (ap (map (tree_at c.args.nodes.now)) c.forget.ensures.dropped ∙ drop_map (tree_at c.args.nodes.now) c.args.count c.args.values.now)
    (c.in_ok-push_instance.ensures.steps t c.args.nodes.now
    (subst (AreWithinArity t) (sym right) (right_arities t c.requires.executable c.args.place c.requires.there))
    (λ x o. right_nodes t c.requires.executable c.args.nodes.now c.args.bound.now c.args.place c.args.next c.args.op.0 c.args.count
    c.args.todo.now c.args.values.now c.requires.there c.requires.fit x (subst (Occurs x) right o)) c.requires.calling.steps)
    (subst (Each (IsNode c.args.nodes.now)) (sym c.forget.ensures.dropped)
    (each_under (IsNode c.args.nodes.now) c.args.count c.args.values.now c.requires.calling.values))

pub returns-clause-kept : goal.returns-clause-kept
returns-clause-kept c =
    let t = theory_of c.args.algebra.now in
    let few : length c.numbered-equation.result.now.premises.items ≤ c.args.next = search rules in
    let size = ap (λ d. length d.premises) c.numbered-equation.ensures.same in
    let last : length (equation_at t c.args.place).premises ≤ c.args.next =
    omega (arith, few, size, length-map c.numbered-equation.result.now.premises.items premise_of) in
    wanting_uses t c.requires.executable c.args.nodes.now c.args.bound.now c.args.place c.args.next c.args.op.0 c.args.count
    c.args.todo.now c.args.values.now c.requires.there c.requires.fit c.push_instance.new.todo c.forget.new.self c.args.uses
    last
    (c.in_ok-push_instance.ensures.planned t c.args.nodes.now ∙ ap
    (λ r. plan (put_by c.args.nodes.now c.args.bound.now) r (map (task_of t c.args.nodes.now) c.args.todo.now))
    (ap (λ d. d.right) c.numbered-equation.ensures.same))
    (ap (map (tree_at c.args.nodes.now)) c.forget.ensures.dropped ∙ drop_map (tree_at c.args.nodes.now) c.args.count c.args.values.now)
