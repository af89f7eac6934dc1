use Rattle.std.proofs.Common.{sym, ap, subst, ◌∙◌}
use Rattle.spec_core.specs.Terms.{term_of, preorder}
use Rattle.spec_core.specs.Theories.{theory_of}
use Rattle.data_laws.proofs.Whole.{equality_is_of_values}
use Rattle.data_laws.proofs.Sorted.{keeps_sort}
use Rattle.data_laws.proofs.Conditions.{sorted_of}
use Rattle.data_laws.proofs.Words.{one_term}
use Rattle.rewriter.specs.Answers.{SpellsValue}
use Rattle.match_code.proofs.engine.Engine.compare.Goals as goal

pub returns-clause-decides : goal.returns-clause-decides
returns-clause-decides c =
    let t = theory_of c.args.self.now.algebra.now in
    let ex = c.requires.engine.forms.executable in
    let l = c.in-Ok.ensures.value in
    let r = subst (λ d. SpellsValue (theory_of d) (term_of c.args.right.now) c.args.budget c.in-Ok-value.right_value) c.in-Ok.ensures.algebra
    c.in-Ok-value.ensures.value in
    let law = equality_is_of_values t ex (term_of c.args.left.now) (term_of c.args.right.now) l.value r.value l.has r.has in
    let a = keeps_sort t ex.orthogonal.closed (sorted_of t ex) l.evaluates c.requires.left.0 c.requires.left.1 in
    let b = keeps_sort t ex.orthogonal.closed (sorted_of t ex) r.evaluates c.requires.right.0 c.requires.right.1 in (
      λ h. law.1 (one_term t l.value r.value c.requires.left.0 c.requires.right.0 a b
          (sym l.spelled ∙ c.same.ensures.decides.0 h ∙ r.spelled)),
      λ e. c.same.ensures.decides.1 (l.spelled ∙ ap preorder (law.0 e) ∙ sym r.spelled),
    )
