-- What a text comes to: a program, or its first refusal (this profile).
use Rattle.std.specs.Prelude.{ℕ, List}
use Rattle.lotos_ast.specs.declared.refusal.Refusal.{Refusal}
use Rattle.lotos_ast.specs.declared.spec.Spec.{Spec}
use Rattle.lotos_ast.specs.declared.token.Token.{Token}
use Rattle.spec_core.specs.Code.{Program}
use Rattle.spec_core.specs.Theories.{Theory}
use Rattle.static_check.specs.Compiled.{IsCompiled}
use Rattle.static_check.specs.Compiled as static
use Rattle.lotos_front.specs.Accepted.{IsExecutableIn}
use Rattle.lotos_front.specs.FirstRefusals.{IsFirstDataRefusal}
use Rattle.lotos_front.specs.Parsed.{IsLexed, IsSpecification}

-- the text is this specification
pub record IsSpelled (text : List ℕ) (spec : Spec) : Type 0 where
  pub tokens : List Token
  pub lexed : IsLexed text tokens
  pub read : IsSpecification tokens spec

-- the text is accepted: it is a specification, its data can be run, and over these it is compiled to this program
pub record IsAccepted (text : List ℕ) (program : Program) : Type 0 where
  pub spec : Spec
  pub spelled : IsSpelled text spec
  pub theory : Theory
  pub executable : IsExecutableIn text theory
  pub compiled : IsCompiled theory spec program

-- The first refusal of a text: that of its data, or, where they can be run, that of its behaviour.
pub data IsFirstRefusal (text : List ℕ) (r : Refusal) : Type 0 where
  of_data : IsFirstDataRefusal text r → IsFirstRefusal text r
  of_behaviour : (spec : Spec) (theory : Theory) → IsSpelled text spec → IsExecutableIn text theory →
      static.IsFirstRefusal theory spec r → IsFirstRefusal text r
