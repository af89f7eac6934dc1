-- Laws of texts that are accepted, and of those that are refused.
use Rattle.std.specs.Prelude.{ℕ, ◌≡◌, List}
use Rattle.lotos_ast.specs.declared.refusal.Refusal.{Refusal}
use Rattle.spec_core.specs.Code.{Program}
use Rattle.spec_core.specs.Ready.{IsReady}
use Rattle.spec_core.specs.Theories.{Theory}
use Rattle.lotos_front.specs.Accepted.{IsExecutableIn}
use Rattle.lotos_front.specs.Answers.{IsAccepted, IsFirstRefusal}
use Rattle.lotos_front.specs.FirstRefusals.{IsFirstDataRefusal}

-- what a text that is accepted is compiled to is ready to run
abbrev pub AcceptedIsReady : Type 0
AcceptedIsReady = (text : List ℕ) (program : Program) → IsAccepted text program → IsReady program

-- the data of a text that can be run are one, or one refusal of them is the first, and never both
pub record HasOneDataAnswer (text : List ℕ) : Type 0 where
  pub one_theory : (theory other : Theory) → IsExecutableIn text theory → IsExecutableIn text other → theory ≡ other
  pub one_refusal : (r s : Refusal) → IsFirstDataRefusal text r → IsFirstDataRefusal text s → r ≡ s
  pub not_both : (theory : Theory) (r : Refusal) → IsExecutableIn text theory → IsFirstDataRefusal text r → ⊥

abbrev pub DataAnswersAreOne : Type 0
DataAnswersAreOne = (text : List ℕ) → HasOneDataAnswer text

-- a text is accepted with one program, or one refusal of it is the first, and never both
pub record HasOneAnswer (text : List ℕ) : Type 0 where
  pub one_program : (program other : Program) → IsAccepted text program → IsAccepted text other → program ≡ other
  pub one_refusal : (r s : Refusal) → IsFirstRefusal text r → IsFirstRefusal text s → r ≡ s
  pub not_both : (program : Program) (r : Refusal) → IsAccepted text program → IsFirstRefusal text r → ⊥

abbrev pub AnswersAreOne : Type 0
AnswersAreOne = (text : List ℕ) → HasOneAnswer text
