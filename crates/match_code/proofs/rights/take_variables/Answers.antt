use Rattle.std.proofs.Common.{rules, ◌≡◌, ◌∷◌, ◌++◌, [], map, sym, ap, subst, ◌∙◌}
use Rattle.spec_core.specs.Lists.{Each}
use Rattle.spec_core.specs.Terms.{Occurs}
use Rattle.spec_core.proofs.Lists.{each_push}
use Rattle.rewriter.specs.Machine.{put}
use Rattle.rewriter.specs.Steps.{IsWithinArity}
use Rattle.match_code.specs.declared.rights.Symbol.TheVariants.{Variable}
use Rattle.match_code.specs.Rights.{task_by, OnVariable, OnOperation}
use Rattle.match_code.proofs.Postfix.{move_one}
use Rattle.match_code.proofs.rights.take_variables.Goals as goal

pub returns-in-None-clause-there : goal.returns-in-None-clause-there
returns-in-None-clause-there c = λ u k.
    let b = c.loop-turn.invariant.there u k in
    (b.0, subst (Each (OnVariable (λ x. Occurs x u))) (c.in-None.ensures.popped.0 ∙ sym c.in-None.ensures.popped.1) b.1)

pub returns-in-Some-Operation-clause-there : goal.returns-in-Some-Operation-clause-there
returns-in-Some-Operation-clause-there c = λ u k.
    let b = c.loop-turn.invariant.there u k in
    let e : c.loop-turn.symbols ≡ c.push-in-Some-Operation.new.self = search rules in
    (b.0, subst (Each (OnVariable (λ x. Occurs x u))) e b.1)

pub returns-in-None-clause-arities : goal.returns-in-None-clause-arities
returns-in-None-clause-arities c = λ theory k.
    subst (Each (OnOperation (IsWithinArity theory))) (c.in-None.ensures.popped.0 ∙ sym c.in-None.ensures.popped.1)
    (c.loop-turn.invariant.arities theory k)

pub returns-in-Some-Operation-clause-arities : goal.returns-in-Some-Operation-clause-arities
returns-in-Some-Operation-clause-arities c = λ theory k.
    let e : c.loop-turn.symbols ≡ c.push-in-Some-Operation.new.self = search rules in
    subst (Each (OnOperation (IsWithinArity theory))) e (c.loop-turn.invariant.arities theory k)

pub loop-turn-preserved : goal.loop-turn-preserved
loop-turn-preserved c =
    let first = c.loop-turn.first.items in
    let x = c.in-Some-Variable.x in
    let left = c.pop.new.self in
    let e : c.loop-turn.symbols ≡ Variable x ∷ left = search rules in
    let p : c.push.new.self.items ≡ first ++ x ∷ [] = search rules in
    record {
      same = λ s.
          ap (λ xs. map (λ y. put (s y)) xs ++ map (task_by s) left) p ∙ move_one s first x left
          ∙ ap (λ symbols. map (λ y. put (s y)) first ++ map (task_by s) symbols) (sym e) ∙ c.loop-turn.invariant.same s;
      there = λ u k.
          let b = c.loop-turn.invariant.there u k in
          let d = subst (Each (OnVariable (λ y. Occurs y u))) e b.1 in
          (subst (Each (λ y. Occurs y u)) (sym p) (each_push (λ y. Occurs y u) first x b.0 d.0), d.1);
      arities = λ theory k. (subst (Each (OnOperation (IsWithinArity theory))) e (c.loop-turn.invariant.arities theory k)).1;
    }
