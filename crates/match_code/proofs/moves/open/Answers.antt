use Rattle.std.proofs.Common.{◌∷◌, refl, ap, ◌∙◌}
use Rattle.rewriter.specs.declared.step.Step.TheVariants.{Call}
use Rattle.match_code.proofs.States.{state_opened, at_equal, with_values}
use Rattle.match_code.proofs.moves.open.Goals as goal

pub returns : goal.returns
returns c = record {
  stands = λ theory t budget store ex s.
      let runs = c.args.runs.now in
      let op = c.args.op in
      let k = c.args.count in
      let o = state_opened theory ex t budget store.nodes runs.frames op k runs.todo runs.values runs.uses s.state c.requires.enough in
      record {
        state = at_equal theory t budget store.nodes _ c.push.new.self _ (Call op k ∷ c.replace-todo.new.dest) _ c.replace-values.new.dest _
            runs.uses o
            (c.in_ok-push.ensures.pushed
            ∙ ap (λ f. f ∷ runs.frames)
            (with_values op runs.uses c.in_ok-args.ensures.copied c.replace-todo.ensures.value
            (c.replace-values.ensures.value ∙ c.forget.ensures.dropped)))
            (ap (λ steps. Call op k ∷ steps) (c.replace-todo.ensures.after ∙ c.new.ensures.none))
            (c.replace-values.ensures.after ∙ c.in_ok-inner.ensures.copied) refl;
        remembers = s.remembers;
      };
}
