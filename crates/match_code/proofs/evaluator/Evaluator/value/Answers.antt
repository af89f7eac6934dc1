use Rattle.std.proofs.Common.{◌≡◌, IfOk, IfErr, sym, subst}
use Rattle.spec_core.specs.Budgets.{IsBeyond}
use Rattle.spec_core.specs.Sorts.{FitsGround}
use Rattle.spec_core.specs.Terms.{term_of}
use Rattle.spec_core.specs.Theories.{theory_of}
use Rattle.rewriter.specs.declared.fault.Eval.TheVariants.{Spent, TooLarge, Memory}
use Rattle.rewriter.specs.Answers.{SpellsValue, MeetsTooLarge, IsWithin}
use Rattle.match_code.proofs.evaluator.Evaluator.value.Goals as goal

pub value_of-requires-clause-fits : goal.value_of-requires-clause-fits
value_of-requires-clause-fits c =
    subst (λ d. FitsGround (theory_of d) (term_of c.args.term.now)) (sym c.self.view_is) c.requires.fits

pub returns : goal.returns
returns c =
    let t = term_of c.args.term.now in
    let same = c.self.view_is in
    let made = c.value_of.ensures in
    record {
      value = subst (λ d. IfOk c.value_of.result (SpellsValue (theory_of d) t c.args.budget)) same made.value;
      spent = subst (λ d. IfErr c.value_of.result (λ e. e ≡ Spent → IsBeyond (theory_of d) t c.args.budget)) same made.spent;
      too_large = subst (λ d. IfErr c.value_of.result (λ e. e ≡ TooLarge → MeetsTooLarge (theory_of d) t)) same made.too_large;
      complete = subst (λ d. IsWithin (theory_of d) t c.args.budget → IfErr c.value_of.result (λ e. e ≡ Memory)) same made.complete;
    }
