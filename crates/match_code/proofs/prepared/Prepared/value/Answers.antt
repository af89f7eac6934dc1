use Rattle.std.proofs.Common.{◌≡◌, IfOk, IfErr, sym, subst}
use Rattle.spec_core.specs.Budgets.{IsBeyond}
use Rattle.spec_core.specs.Sorts.{FitsGround}
use Rattle.spec_core.specs.Terms.{term_of}
use Rattle.spec_core.specs.Theories.{theory_of}
use Rattle.rewriter.specs.declared.fault.Eval.TheVariants.{Spent, TooLarge, Memory}
use Rattle.rewriter.specs.Answers.{SpellsValue, MeetsTooLarge, IsWithin}
use Rattle.match_code.proofs.prepared.Prepared.value.Goals as goal

pub value-requires : goal.value-requires
value-requires c = record {
  fits = subst (λ d. FitsGround (theory_of d) (term_of c.args.term.now)) (sym c.args.self.now.same) c.requires.fits;
}

pub returns : goal.returns
returns c =
    let t = term_of c.args.term.now in
    let same = c.args.self.now.same in
    record {
      value = subst (λ d. IfOk c.value.result (SpellsValue (theory_of d) t c.args.budget)) same c.value.ensures.value;
      spent = subst (λ d. IfErr c.value.result (λ e. e ≡ Spent → IsBeyond (theory_of d) t c.args.budget)) same c.value.ensures.spent;
      too_large = subst (λ d. IfErr c.value.result (λ e. e ≡ TooLarge → MeetsTooLarge (theory_of d) t)) same c.value.ensures.too_large;
      complete = subst (λ d. IsWithin (theory_of d) t c.args.budget → IfErr c.value.result (λ e. e ≡ Memory)) same
          c.value.ensures.complete;
    }
