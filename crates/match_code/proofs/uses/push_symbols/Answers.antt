use Rattle.std.proofs.Common.{rules, ◌≡◌, ◌<◌, ◌++◌, ◌∷◌, get_or, length, map, reverse, take, sym, ap, subst, ◌∙◌}
use Rattle.std.proofs.lemmas.List.{take_all}
use Rattle.spec_core.specs.Lists.{Each}
use Rattle.spec_core.proofs.Lists.{each_get_or, own_default, take_next}
use Rattle.value_nodes.specs.Nodes.{IsNode}
use Rattle.value_nodes.proofs.Parts.{each_less}
use Rattle.rewriter.specs.Steps.{bound_at, put_by, task_of, IsStep, IsWithinArity}
use Rattle.match_code.specs.declared.rights.Symbol.TheVariants.{Variable}
use Rattle.match_code.specs.Rights.{task_by, OnVariable, OnOperation}
use Rattle.match_code.proofs.Postfix.{symbol_more}
use Rattle.match_code.proofs.uses.push_symbols.Goals as goal

pub step_of-requires : goal.step_of-requires
step_of-requires c = record {
  room = each_get_or (OnVariable (λ x. x < length c.args.bound.now)) c.args.symbols.now c.loop-symbol.symbol-index (Variable 0)
      c.loop-symbol-test.true c.requires.room;
}

pub loop-symbol-preserved : goal.loop-symbol-preserved
loop-symbol-preserved c =
    let symbols = c.args.symbols.now in
    let i = c.loop-symbol.symbol-index in
    let x = get_or symbols i (Variable 0) in
    let at = own_default symbols i (Variable 0) c.loop-symbol-test.true in
    let e : c.push.new.self ≡ c.step_of.result ∷ c.loop-symbol.todo = search rules in
    record {
      planned = λ theory rows.
          symbol_more theory rows c.args.bound.now symbols i x c.step_of.result c.loop-symbol.todo c.args.todo.now c.push.new.self
          c.loop-symbol-test.true at (c.loop-symbol.invariant.planned theory rows) (c.step_of.ensures.task theory rows) e;
      steps = λ theory rows k arities before.
          let within = OnOperation (IsWithinArity theory) in
          let all = each_less within (take i symbols) x
          (subst (Each within) (take_next symbols i x c.loop-symbol-test.true at) arities) in
          let both = each_less (OnVariable (λ y. IsNode rows (bound_at c.args.bound.now y))) (take i symbols) x
          (subst (Each (OnVariable (λ y. IsNode rows (bound_at c.args.bound.now y)))) (take_next symbols i x c.loop-symbol-test.true at) k) in
          subst (Each (IsStep theory rows)) (sym e)
          (c.step_of.ensures.step theory rows both.1 all.1, c.loop-symbol.invariant.steps theory rows both.0 all.0 before);
    }

pub returns : goal.returns
returns c = record {
  planned = λ theory rows.
      c.loop-symbol.invariant.planned theory rows
      ∙ ap (λ us. map (task_by (put_by rows c.args.bound.now)) (reverse us) ++ map (task_of theory rows) c.args.todo.now)
      (take_all c.loop-symbol.symbol-index c.args.symbols.now c.loop-symbol-test.false);
  steps = λ theory rows k arities before.
      let all = take_all c.loop-symbol.symbol-index c.args.symbols.now c.loop-symbol-test.false in
      c.loop-symbol.invariant.steps theory rows
      (subst (Each (OnVariable (λ y. IsNode rows (bound_at c.args.bound.now y)))) (sym all) k)
      (subst (Each (OnOperation (IsWithinArity theory))) (sym all) arities) before;
}
