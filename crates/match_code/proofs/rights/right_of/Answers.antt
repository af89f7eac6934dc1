use Rattle.std.proofs.Common.{[], map, sym, ap, subst, ◌∙◌}
use Rattle.spec_core.specs.Lists.{Each}
use Rattle.spec_core.specs.Terms.{term_of, Occurs}
use Rattle.spec_core.specs.Theories.{theory_of}
use Rattle.rewriter.specs.Machine.{plan}
use Rattle.rewriter.specs.Steps.{equation_at, AreWithinArity, IsWithinArity}
use Rattle.rewriter.proofs.Arities.{right_arities}
use Rattle.match_code.specs.Rights.{task_by, OnVariable, OnOperation}
use Rattle.match_code.proofs.rights.right_of.Goals as goal

pub returns : goal.returns
returns c =
    let t = theory_of c.args.algebra.now in
    let e = ap (λ d. d.right) c.numbered.ensures.same in
    let u = (equation_at t c.args.place).right in
    let made = c.in_ok-flatten.ensures in
    let there = c.in_ok-first.ensures.there u (made.there u (λ x o. subst (Occurs x) e o)
    (subst (Each (OnVariable (λ x. Occurs x u))) (sym c.new-rest.ensures.none) tt)) in
    let within = made.arities t (subst (AreWithinArity t) (sym e) (right_arities t c.requires.executable c.args.place c.requires.there))
    (subst (Each (OnOperation (IsWithinArity t))) (sym c.new-rest.ensures.none) tt) in
    record {
      right = record {
        there = c.requires.there;
        postfix = record {
          planned = λ s.
              c.in_ok-first.ensures.same s ∙ made.planned s
              ∙ ap (λ symbols. plan s (term_of c.numbered.result.now.right) (map (task_by s) symbols)) c.new-rest.ensures.none
              ∙ ap (λ r. plan s r []) e;
          first_there = there.0;
          rest_there = there.1;
        };
        arities = c.in_ok-first.ensures.arities t within;
      };
    }
