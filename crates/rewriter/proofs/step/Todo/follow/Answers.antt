use Rattle.std.proofs.Common.{rules, ◌≡◌, ◌++◌, ◌∷◌, [], get_or, reverse, map, subst, sym, ap, ◌∙◌}
use Rattle.std.proofs.lemmas.List.{take_all}
use Rattle.spec_core.specs.Lists.{Each}
use Rattle.spec_core.proofs.Lists.{each_push, each_get_or, own_default, take_next}
use Rattle.value_nodes.proofs.Nodes.{longer_on}
use Rattle.value_nodes.proofs.Parts.{each_less}
use Rattle.rewriter.specs.declared.step.Step.TheVariants.{Put}
use Rattle.rewriter.specs.Steps.{task_of, IsStep, IsHeld}
use Rattle.rewriter.proofs.Calls.{same_tasks, still_steps, still_held}
use Rattle.rewriter.proofs.Tops.{each_reversed}
use Rattle.rewriter.proofs.Following.{each_back, followed, followed_next}
use Rattle.rewriter.proofs.step.Todo.follow.Goals as goal

pub follow_step-requires-clause-held : goal.follow_step-requires-clause-held
follow_step-requires-clause-held c =
    let items = c.deref-step-items.result.now in
    let r : c.args.self.now ≡ reverse items = search rules in
    each_get_or (IsHeld c.args.from.now) items c.loop-step.step-index (Put 0) c.loop-step-test.true
    (each_back (IsHeld c.args.from.now) items (subst (Each (IsHeld c.args.from.now)) r c.requires.held))

pub loop-step-preserved : goal.loop-step-preserved
loop-step-preserved c =
    let items = c.deref-step-items.result.now in
    let done = c.loop-step.steps.items in
    let before = c.loop-step.into in
    let after = c.follow_step.new.into in
    let inv = c.loop-step.invariant in
    let made = c.in_ok-followed.ensures in
    let x = get_or items c.loop-step.step-index (Put 0) in
    let at = own_default items c.loop-step.step-index (Put 0) c.loop-step-test.true in
    let e : c.push.new.self.items ≡ done ++ c.in_ok-followed.followed ∷ [] = search rules in
    record {
      copies = made.copies;
      longer = longer_on c.args.into.now before after inv.longer made.longer;
      held = subst (Each (IsHeld after)) (sym e)
          (each_push (IsHeld after) done c.in_ok-followed.followed (still_held before after made.longer done inv.held) made.held);
      steps = λ theory k.
          let both = each_less (IsStep theory c.args.from.now) _ x
          (subst (Each (IsStep theory c.args.from.now)) (take_next items c.loop-step.step-index x c.loop-step-test.true at) k) in
          subst (Each (IsStep theory after)) (sym e)
          (each_push (IsStep theory after) done c.in_ok-followed.followed
          (still_steps theory before after made.longer done (inv.steps theory both.0)) (made.step theory both.1));
      same = λ theory.
          followed_next (task_of theory c.args.from.now) (task_of theory before) (task_of theory after) items done
          c.push.new.self.items c.loop-step.step-index x c.in_ok-followed.followed c.loop-step-test.true at (inv.same theory)
          (same_tasks theory before after made.longer done inv.held) (made.same theory) e;
    }

pub returns-clause-steps : goal.returns-clause-steps
returns-clause-steps c = λ theory k.
    let items = c.deref-step-items.result.now in
    let r : c.args.self.now ≡ reverse items = search rules in
    let all = each_back (IsStep theory c.args.from.now) items (subst (Each (IsStep theory c.args.from.now)) r k) in
    each_reversed (IsStep theory c.loop-step.into) c.loop-step.steps.items
    (c.loop-step.invariant.steps theory
    (subst (Each (IsStep theory c.args.from.now)) (sym (take_all c.loop-step.step-index items c.loop-step-test.false)) all))

pub returns-clause-same : goal.returns-clause-same
returns-clause-same c = λ theory.
    let items = c.deref-step-items.result.now in
    let r : c.args.self.now ≡ reverse items = search rules in
    followed (task_of theory c.args.from.now) (task_of theory c.loop-step.into) items c.loop-step.steps.items c.loop-step.step-index
    c.loop-step-test.false (c.loop-step.invariant.same theory)
    ∙ ap (map (task_of theory c.args.from.now)) (sym r)
