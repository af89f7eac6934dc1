use Rattle.std.proofs.Common.{◌≡◌, ◌∷◌, [], refl, sym, subst, ap, ◌∙◌, IfSome, IfNone}
use Rattle.lotos_ast.specs.declared.refusal.RefusalKind.TheVariants.{ConstructorHasEquation, PatternHasDefined, NotLeftLinear}
use Rattle.lotos_ast.specs.declared.refusal.RefusalKind.TheVariants.{LooseVariable}
use Rattle.spec_core.specs.Lists.{Each, IsOneOf}
use Rattle.spec_core.specs.Theories.{theory_of, equation_of}
use Rattle.spec_core.proofs.Lists.{untrue}
use Rattle.equation_faults.specs.Faults.{IsFaultOf, refusal_at, constructor_has_equation, pattern_has_defined, not_left_linear}
use Rattle.equation_faults.specs.Faults.{loose_variable}
use Rattle.equation_faults.specs.Firsts.{IsFirstOf, IsFirstRepeated}
use Rattle.equation_faults.specs.Variables.{variables, asked_variables}
use Rattle.equation_faults.proofs.Occurrences.{linear, closed, first_loose}
use Rattle.equation_sets.proofs.Members.{Distinct}
use Rattle.equation_faults.proofs.fault.fault_of.Goals as goal

pub returns-in-Some-clause-fault : goal.returns-in-Some-clause-fault
returns-in-Some-clause-fault c =
    let theory = theory_of c.args.algebra.now in
    let e = equation_of c.args.equation.now in
    let m = c.in-Some.ensures.marked in
    let names : c.in_ok-vec.field-0.items ≡ _ ∷ [] = c.in_ok-vec.ensures.items ∙ ap (λ n. n ∷ []) (c.in_ok-copy.ensures ∙ sym m.3) in
    subst (IsFaultOf theory e) (sym (c.refusal_naming.ensures ∙ ap (refusal_at ConstructorHasEquation e) names))
    (constructor_has_equation m.0 m.1 m.2)

pub returns-then-not-has_patterns-clause-fault : goal.returns-then-not-has_patterns-clause-fault
returns-then-not-has_patterns-clause-fault c =
    let theory = theory_of c.args.algebra.now in
    let e = equation_of c.args.equation.now in
    subst (IsFaultOf theory e)
    (sym (c.refusal_naming-then-not-has_patterns.ensures ∙ ap (refusal_at PatternHasDefined e) c.new.ensures.items))
    (pattern_has_defined c.in_default.ensures.none (λ h. untrue (c.if-not-has_patterns.ensures.decides.1 h)))

pub returns-in-Some-2-clause-fault : goal.returns-in-Some-2-clause-fault
returns-in-Some-2-clause-fault c =
    let theory = theory_of c.args.algebra.now in
    let e = equation_of c.args.equation.now in
    let left : c.deref.result.now ≡ variables e.left = c.deref.ensures.value ∙ c.in_ok-left.ensures in
    let first : IsFirstRepeated c.deref.result.now c.in-Some-2.x =
    subst (λ found. IfSome found (IsFirstRepeated c.deref.result.now)) c.in-Some-2.is c.in_ok-x.ensures.first in
    subst (IsFaultOf theory e)
    (sym (c.refusal_naming-in-Some-2.ensures ∙ ap (refusal_at NotLeftLinear e) c.in_ok-name_of.ensures))
    (not_left_linear c.in_default.ensures.none (c.if-not-has_patterns.ensures.decides.0 refl) c.in-Some-2.x
    (subst (λ xs. IsFirstRepeated xs c.in-Some-2.x) left first))

pub returns-in-Some-3-clause-fault : goal.returns-in-Some-3-clause-fault
returns-in-Some-3-clause-fault c =
    let theory = theory_of c.args.algebra.now in
    let e = equation_of c.args.equation.now in
    let x = c.in-Some-3.x in
    let left : c.deref.result.now ≡ variables e.left = c.deref.ensures.value ∙ c.in_ok-left.ensures in
    let there : c.deref-2.result.now ≡ variables e.left = c.deref-2.ensures.value ∙ c.in_ok-left.ensures in
    let asked : c.deref-3.result.now ≡ asked_variables e = c.deref-3.ensures.value ∙ c.in_ok-asked.ensures in
    let distinct : Distinct c.deref.result.now =
    subst (λ found. IfNone found (Distinct c.deref.result.now)) c.in_default-2.is c.in_ok-x.ensures.none in
    let first : IsFirstOf (λ y. IsOneOf y c.deref-2.result.now → ⊥) c.deref-3.result.now x =
    subst (λ found. IfSome found (IsFirstOf (λ y. IsOneOf y c.deref-2.result.now → ⊥) c.deref-3.result.now)) c.in-Some-3.is c.in_ok-x-2.ensures.first in
    let missing : IsFirstOf (λ y. IsOneOf y (variables e.left) → ⊥) (asked_variables e) x =
    subst (λ xs. IsFirstOf (λ y. IsOneOf y xs → ⊥) (asked_variables e) x) there
    (subst (λ xs. IsFirstOf (λ y. IsOneOf y c.deref-2.result.now → ⊥) xs x) asked first) in
    subst (IsFaultOf theory e)
    (sym (c.refusal_naming-in-Some-3.ensures ∙ ap (refusal_at LooseVariable e) c.in_ok-name_of-2.ensures))
    (loose_variable c.in_default.ensures.none (c.if-not-has_patterns.ensures.decides.0 refl) (linear e.left (subst Distinct left distinct)) x
    (first_loose e x missing))

pub returns-clause-none : goal.returns-clause-none
returns-clause-none c =
    let theory = theory_of c.args.algebra.now in
    let e = equation_of c.args.equation.now in
    let left : c.deref.result.now ≡ variables e.left = c.deref.ensures.value ∙ c.in_ok-left.ensures in
    let there : c.deref-2.result.now ≡ variables e.left = c.deref-2.ensures.value ∙ c.in_ok-left.ensures in
    let asked : c.deref-3.result.now ≡ asked_variables e = c.deref-3.ensures.value ∙ c.in_ok-asked.ensures in
    let distinct : Distinct c.deref.result.now =
    subst (λ found. IfNone found (Distinct c.deref.result.now)) c.in_default-2.is c.in_ok-x.ensures.none in
    let all : Each (λ y. IsOneOf y c.deref-2.result.now) c.deref-3.result.now =
    subst (λ found. IfNone found (Each (λ y. IsOneOf y c.deref-2.result.now) c.deref-3.result.now)) c.in_default-3.is c.in_ok-x-2.ensures.none in
    record {
      unmarked = c.in_default.ensures.none;
      patterns = c.if-not-has_patterns.ensures.decides.0 refl;
      linear = linear e.left (subst Distinct left distinct);
      closed = closed e (subst (λ xs. Each (λ y. IsOneOf y xs) (asked_variables e)) there
          (subst (λ xs. Each (λ y. IsOneOf y c.deref-2.result.now) xs) asked all));
    }
