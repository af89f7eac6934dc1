-- What holds of compiled specifications.
use Rattle.std.specs.Prelude.{◌≡◌}
use Rattle.lotos_ast.specs.declared.refusal.Refusal.{Refusal}
use Rattle.lotos_ast.specs.declared.spec.Spec.{Spec}
use Rattle.spec_core.specs.Code.{Program}
use Rattle.spec_core.specs.Executable.{IsExecutable}
use Rattle.spec_core.specs.Ready.{IsReady}
use Rattle.spec_core.specs.Theories.{Theory}
use Rattle.static_equations.specs.Laws.{IsOne}
use Rattle.static_check.specs.Compiled.{IsJudged, IsCompiled, IsFirstRefusal}
use Rattle.static_laws.specs.CompiledNames.{IsDataNamed}
use Rattle.static_laws.specs.SpecificationNames.{AreGatesNamed}

-- a specification over its data comes to one program only, with one list of refusals
abbrev pub SpecificationsAreOne : Type 0
SpecificationsAreOne = (theory : Theory) (spec : Spec) → IsOne (IsJudged theory spec)

-- so it is compiled to one program, or one refusal of it is the first, and never both
pub record HasOneAnswer (theory : Theory) (spec : Spec) : Type 0 where
  pub one_program : (program other : Program) → IsCompiled theory spec program → IsCompiled theory spec other → program ≡ other
  pub one_refusal : (r s : Refusal) → IsFirstRefusal theory spec r → IsFirstRefusal theory spec s → r ≡ s
  pub not_both : (program : Program) (r : Refusal) → IsCompiled theory spec program → IsFirstRefusal theory spec r → ⊥

abbrev pub AnswersAreOne : Type 0
AnswersAreOne = (theory : Theory) (spec : Spec) → HasOneAnswer theory spec

-- A specification that is accepted is compiled to a program that is ready to run, where its data is executable and named, and the gates in
-- its heading are named
abbrev pub CompiledIsReady : Type 0
CompiledIsReady = (theory : Theory) (spec : Spec) (program : Program) → IsCompiled theory spec program →
    IsExecutable theory → IsDataNamed theory → AreGatesNamed spec → IsReady program
