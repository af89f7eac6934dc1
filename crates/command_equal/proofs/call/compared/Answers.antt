use Rattle.std.proofs.Common.{◌≡◌, refl, inl, inr, subst}
use Rattle.std.proofs.lemmas.Result.{IfOk-weaker}
use Rattle.spec_core.specs.Budgets.{IsBeyond}
use Rattle.spec_core.specs.Terms.{term_of}
use Rattle.spec_core.specs.Theories.{theory_of}
use Rattle.rewriter.specs.Answers.{MeetsTooLarge, IsWithin, at_side}
use Rattle.rewriter.specs.declared.fault.Eval.TheVariants.{Spent, TooLarge}
use Rattle.rewriter.specs.declared.fault.Side.TheVariants.{Left, Right}
use Rattle.command_equal.proofs.Comparisons.{side_comes}
use Rattle.command_equal.proofs.call.compared.Goals as goal

pub returns-in-Left : goal.returns-in-Left
returns-in-Left c =
    let first = term_of c.args.first in
    let second = term_of c.args.second in
    let fault = c.in-Err.field-0 in
    let same = c.in_ok-engine.ensures.algebra in
    let spent = subst (λ d. fault.cause ≡ Spent → IsBeyond (theory_of d) (at_side fault.side first second) c.args.budget) same
    c.in-Err.ensures.spent in
    let large = subst (λ d. fault.cause ≡ TooLarge → MeetsTooLarge (theory_of d) (at_side fault.side first second)) same
    c.in-Err.ensures.too_large in
    IfOk-weaker c.without_value.result _ _
    (λ a h. side_comes (theory_of c.args.checked.now.algebra) c.args.first first second fault Left fault.cause c.args.budget a c.in-Left.is
    refl refl (inl refl) spent large h)
    c.without_value.ensures

pub returns : goal.returns
returns c =
    let first = term_of c.args.first in
    let second = term_of c.args.second in
    let fault = c.in-Err.field-0 in
    let same = c.in_ok-engine.ensures.algebra in
    let spent = subst (λ d. fault.cause ≡ Spent → IsBeyond (theory_of d) (at_side fault.side first second) c.args.budget) same
    c.in-Err.ensures.spent in
    let large = subst (λ d. fault.cause ≡ TooLarge → MeetsTooLarge (theory_of d) (at_side fault.side first second)) same
    c.in-Err.ensures.too_large in
    let within = subst (λ d. IsWithin (theory_of d) first c.args.budget) same (c.in-Err.ensures.left_first c.in-Right.is) in
    IfOk-weaker c.without_value-in-Right.result _ _
    (λ a h. side_comes (theory_of c.args.checked.now.algebra) c.args.second first second fault Right fault.cause c.args.budget a
    c.in-Right.is refl refl (inr (refl, within)) spent large h)
    c.without_value-in-Right.ensures
