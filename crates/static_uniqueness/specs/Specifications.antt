-- What specifications that are alike come to is the same.
use Rattle.std.specs.Prelude.{List, Option}
use Rattle.lotos_ast.specs.declared.refusal.Refusal.{Refusal}
use Rattle.lotos_ast.specs.declared.spec.Spec.{Spec}
use Rattle.spec_core.specs.Code.{Program}
use Rattle.spec_core.specs.Theories.{Theory}
use Rattle.static_check.specs.Compiled.{IsJudged}
use Rattle.static_uniqueness.specs.SpecificationsAlike.{AreSpecificationsAlike}

abbrev pub SameIsJudged : Type 0
SameIsJudged = (theory : Theory) (a b : Spec) → AreSpecificationsAlike a b → (program : Option Program) (refusals : List Refusal) →
    IsJudged theory a program refusals → IsJudged theory b program refusals
