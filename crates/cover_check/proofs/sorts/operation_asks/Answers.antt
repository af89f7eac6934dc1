use Rattle.std.proofs.Common.{◌≡◌, [], sym, subst, ◌∙◌}
use Rattle.spec_core.specs.Lists.{Each, OneOf}
use Rattle.spec_core.specs.Sorts.{EquationFits}
use Rattle.spec_core.specs.Theories.{theory_of}
use Rattle.spec_core.proofs.Lists.{each_filter, untrue}
use Rattle.cover_search.specs.Heads.{headed, is_headed, equations_at}
use Rattle.cover_check.specs.Opening.{EquationAsksIn}
use Rattle.cover_check.proofs.Opening.{of_headed, among_headed}
use Rattle.cover_check.proofs.sorts.operation_asks.Goals as goal

pub some_asks-requires : goal.some_asks-requires
some_asks-requires c =
    let theory = theory_of c.args.algebra.now in
    record {
      fit = subst (Each (EquationFits theory)) (sym (c.in-Some.ensures ∙ c.requires.index.heads c.args.op.0))
          (each_filter (EquationFits theory) (is_headed c.args.op.0) theory.equations c.requires.fits.equations);
    }

pub returns-in-None : goal.returns-in-None
returns-in-None c = (
  λ h. absurd (untrue h),
  λ asks.
      let theory = theory_of c.args.algebra.now in
      let set = c.args.set.now in
      let none : headed c.args.op.0 theory.equations ≡ [] = sym (c.in-None.ensures ∙ c.requires.index.heads c.args.op.0) in
      absurd (subst (OneOf (EquationAsksIn theory set)) none (among_headed theory set c.args.op.0 theory.equations asks)),
)

pub returns-in-Some : goal.returns-in-Some
returns-in-Some c =
    let theory = theory_of c.args.algebra.now in
    let set = c.args.set.now in
    let all : equations_at c.in-Some.headed.now ≡ headed c.args.op.0 theory.equations =
    c.in-Some.ensures ∙ c.requires.index.heads c.args.op.0 in (
      λ h. of_headed theory set c.args.op.0 theory.equations (subst (OneOf (EquationAsksIn theory set)) all (c.some_asks.ensures.0 h)),
      λ asks. c.some_asks.ensures.1
          (subst (OneOf (EquationAsksIn theory set)) (sym all) (among_headed theory set c.args.op.0 theory.equations asks)),
    )
