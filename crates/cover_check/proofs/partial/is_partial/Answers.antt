use Rattle.std.proofs.Common.{◌↔◌, IfOk, IsTrue, MatchOption, Option, refl, sym, subst}
use Rattle.spec_core.specs.Cover.{IsPartial}
use Rattle.spec_core.specs.Theories.{theory_of, operation_of}
use Rattle.spec_core.proofs.Lists.{untrue}
use Rattle.cover_search.specs.declared.arguments.Arguments.{Arguments}
use Rattle.cover_check.specs.Cases.{IsCoveredOperation}
use Rattle.cover_check.proofs.Marking.{covered_total}
use Rattle.cover_check.proofs.partial.is_partial.Goals as goal
use Rattle.cover_check.proofs.partial.is_partial.Goals.{in-None, in-Some}

pub returns : goal.returns
returns c =
    let theory = theory_of c.args.algebra.now in
    let d = operation_of c.args.declaration.now in
    elim c.match-branch-2.branch [
      | in-None w ↦
          subst (λ r. IfOk r (λ yes. IsTrue yes ↔ IsPartial theory c.args.op.0)) (sym w.result-is) (
            λ h. absurd (untrue h),
            λ p. absurd (covered_total theory c.args.op.0 d c.requires.declared
                (subst (λ (o : Option Arguments). MatchOption o (IsCoveredOperation theory c.args.op.0 d) (λ _. Unit {0})) w.in-None.is c.in_ok-uncovered_case.ensures.covered) p),
          )
      | in-Some w ↦
          subst (λ r. IfOk r (λ yes. IsTrue yes ↔ IsPartial theory c.args.op.0)) (sym w.result-is) (
            λ h. subst (λ (o : Option Arguments). MatchOption o (Unit {0}) (λ _. IsPartial theory c.args.op.0)) w.in-Some.is c.in_ok-uncovered_case.ensures.uncovered,
            λ p. refl,
          )
    ]
