-- What comes of two texts that are to be equal terms of a specification (this profile).
use Rattle.std.specs.Prelude.{ℕ, ◌≡◌, ◌⊎◌, List}
use Rattle.lotos_ast.specs.declared.text_kind.TextKind.{TextKind}
use Rattle.lotos_ast.specs.declared.text_kind.TextKind.TheVariants.{Sort}
use Rattle.spec_core.specs.Budgets.{IsBeyond}
use Rattle.spec_core.specs.Equality.{Equal}
use Rattle.spec_core.specs.Terms.{TermTree, term_of}
use Rattle.spec_core.specs.Theories.{Theory}
use Rattle.spec_core.specs.declared.term.Term.{Term}
use Rattle.rewriter.specs.Answers.{MeetsTooLarge, IsWithin, AreWithin}
use Rattle.rewriter.specs.declared.fault.Eval.{Eval}
use Rattle.rewriter.specs.declared.fault.Eval.TheVariants as causes
use Rattle.script_text.specs.declared.fault.ScriptFault.{ScriptFault}
use Rattle.script_text.specs.declared.fault.ScriptFault.TheVariants as faults
use Rattle.script_text.specs.Terms.{SpellsTerm, IsTermFault}
use Rattle.command_equal.specs.declared.answer.Answer.{Answer}
use Rattle.command_equal.specs.declared.answer.Answer.TheVariants as answers

-- the texts spell these terms, which are of one sort
pub record AreSpelled (theory : Theory) (first second : List ℕ) (t u : TermTree) : Type 0 where
  pub sort : ℕ
  pub first_spelled : SpellsTerm theory first t sort
  pub second_spelled : SpellsTerm theory second u sort

-- the term is the first one; or it is the second one, and the first has a value within the budget and meets none that is too large
abbrev pub IsEvaluated : Theory → TermTree → TermTree → ℕ → TermTree → Type 0
IsEvaluated theory t u budget x = (x ≡ t) ⊎ (x ≡ u) × IsWithin theory t budget

-- why the texts spell no terms of one sort, in this order: the first is no term; it is, and the second is none; they are of two sorts
pub data IsRefused (theory : Theory) (first second : List ℕ) : ℕ → TextKind → Type 0 where
  of_first : {kind : TextKind} → IsTermFault theory first kind → IsRefused theory first second 1 kind
  of_second : {kind : TextKind} (t : TermTree) (sort : ℕ) → SpellsTerm theory first t sort → IsTermFault theory second kind →
      IsRefused theory first second 2 kind
  of_two_sorts : (t u : TermTree) (sort other : ℕ) → SpellsTerm theory first t sort → SpellsTerm theory second u other →
      (sort ≡ other → ⊥) →
      IsRefused theory first second 2 Sort

-- What comes of two terms, with so many uses of equations for each.
--   equal: they are equal by the equations, and each has a value within so many uses and meets none that is too large;
--   unequal: they aren't, and each has;
--   spent: the first of them that has no such value takes more uses;
--   too large: its evaluation meets a value that is too large.
abbrev pub TermsCome : Theory → TermTree → TermTree → ℕ → Answer → Type 0
TermsCome theory t u budget answers.Equal = Equal theory t u × AreWithin theory t u budget
TermsCome theory t u budget answers.Unequal = (Equal theory t u → ⊥) × AreWithin theory t u budget
TermsCome theory t u budget (answers.Spent x) = IsEvaluated theory t u budget (term_of x) × IsBeyond theory (term_of x) budget
TermsCome theory t u budget (answers.TooLarge x) = IsEvaluated theory t u budget (term_of x) × MeetsTooLarge theory (term_of x)
TermsCome theory t u budget (answers.Refused line kind) = ⊥

-- what comes of two texts: of the terms of one sort that they spell, or why they spell none
abbrev pub Comes : Theory → List ℕ → List ℕ → ℕ → Answer → Type 0
Comes theory first second budget (answers.Refused line kind) = IsRefused theory first second line kind
Comes theory first second budget answer =
    (t u : TermTree) × AreSpelled theory first second t u × TermsCome theory t u budget answer

-- the answer tells why the term has no value
abbrev pub AnswersCause : Term → Eval → Answer → Type 0
AnswersCause x causes.Spent a = a ≡ answers.Spent x
AnswersCause x causes.TooLarge a = a ≡ answers.TooLarge x
AnswersCause x causes.Memory a = ⊥

-- the answer tells why the text in this line spells no term
abbrev pub AnswersFault : ScriptFault → ℕ → Answer → Type 0
AnswersFault (faults.Line told kind) line a = a ≡ answers.Refused line kind
AnswersFault faults.Memory line a = ⊥
