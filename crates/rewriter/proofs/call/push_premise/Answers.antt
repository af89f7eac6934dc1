use Rattle.std.proofs.Common.{rules, inl, inr, map, sym, ap, subst, ◌∙◌}
use Rattle.std.proofs.lemmas.Result.{on_ok_weaker}
use Rattle.spec_core.specs.Lists.{Each}
use Rattle.spec_core.specs.Terms.{term_of}
use Rattle.spec_core.specs.Theories.{theory_of}
use Rattle.rewriter.specs.Machine.{plan}
use Rattle.rewriter.specs.Steps.{put_by, task_of, IsStep}
use Rattle.rewriter.proofs.Arities.{premise_arities}
use Rattle.rewriter.proofs.call.push_premise.Goals as goal

pub overflow_add-next : goal.overflow_add-next
overflow_add-next c = search (c.numbered_premise-sides.ensures.countable, rules)

pub push_instance-requires : goal.push_instance-requires
push_instance-requires c = record {
  room = λ x o. c.requires.room c.args.place c.requires.there x (c.numbered_premise-sides.ensures.closed x (inr o));
}

pub push_instance-requires-2 : goal.push_instance-requires-2
push_instance-requires-2 c = record {
  room = λ x o. c.requires.room c.args.place c.requires.there x (c.numbered_premise-sides.ensures.closed x (inl o));
}

pub returns-clause-planned : goal.returns-clause-planned
returns-clause-planned c =
    let t = theory_of c.args.algebra.now in
    let sides = c.numbered_premise-sides.result.now in
    on_ok_weaker c.push_instance-2.result
    (λ h rows. record {
      left = term_of sides.0;
      right = term_of sides.1;
      asks = c.numbered_premise-sides.ensures.asked;
      steps = h t rows
          ∙ ap (plan (put_by rows c.args.bound.now) (term_of sides.0))
          (c.in_ok-push_instance.ensures.planned t rows
          ∙ ap (λ todo. plan (put_by rows c.args.bound.now) (term_of sides.1) (map (task_of t rows) todo)) c.in_ok-push.ensures.pushed);
    })
    c.push_instance-2.ensures.planned

pub returns-clause-steps : goal.returns-clause-steps
returns-clause-steps c =
    let t = theory_of c.args.algebra.now in
    let sides = c.numbered_premise-sides.result.now in
    let closed = c.numbered_premise-sides.ensures.closed in
    let arities = premise_arities t c.requires.executable c.args.place c.requires.there c.args.next (term_of sides.0) (term_of sides.1)
    _ c.numbered_premise-sides.ensures.asked in
    on_ok_weaker c.push_instance-2.result
    (λ h rows there before. h t rows arities.0 (λ x o. there x (closed x (inl o)))
    (c.in_ok-push_instance.ensures.steps t rows arities.1 (λ x o. there x (closed x (inr o)))
    (subst (Each (IsStep t rows)) (sym c.in_ok-push.ensures.pushed) (c.requires.there, before))))
    c.push_instance-2.ensures.steps
