-- What comes of terms comes of the texts that spell them.
use Rattle.std.proofs.Common.{ℕ, ◌≡◌, ◌∙◌, refl, sym, ap, subst, List}
use Rattle.lotos_ast.specs.declared.text_kind.TextKind.TheVariants.{Sort}
use Rattle.spec_core.specs.declared.term.Term.{Term}
use Rattle.spec_core.specs.Budgets.{IsBeyond}
use Rattle.spec_core.specs.Terms.{TermTree, term_of}
use Rattle.spec_core.specs.Theories.{Theory}
use Rattle.rewriter.specs.Answers.{MeetsTooLarge, at_side}
use Rattle.rewriter.specs.declared.fault.Side.{Side}
use Rattle.rewriter.specs.declared.fault.SideFault.{SideFault}
use Rattle.rewriter.specs.declared.fault.Eval.{Eval}
use Rattle.rewriter.specs.declared.fault.Eval.TheVariants as causes
use Rattle.script_text.specs.Answers.{OnLine}
use Rattle.script_text.specs.Terms.{SpellsTerm, IsTermFault}
use Rattle.script_text.specs.declared.fault.ScriptFault.{ScriptFault}
use Rattle.script_text.specs.declared.fault.ScriptFault.TheVariants as faults
use Rattle.command_equal.specs.declared.answer.Answer.{Answer}
use Rattle.command_equal.specs.declared.answer.Answer.TheVariants.{Equal, Unequal, Spent, TooLarge, Refused}
use Rattle.command_equal.specs.Comparisons.{AnswersCause, AnswersFault, TermsCome, Comes, IsEvaluated, IsRefused, of_first, of_second, of_two_sorts}

pub terms_come : (theory : Theory) (first second : List ℕ) (t u : TermTree) (sort : ℕ) (budget : ℕ) (a : Answer) →
    SpellsTerm theory first t sort → SpellsTerm theory second u sort → TermsCome theory t u budget a → Comes theory first second budget a
terms_come theory first second t u sort budget Equal s r h = (t, u, record { sort = sort; first_spelled = s; second_spelled = r }, h)
terms_come theory first second t u sort budget Unequal s r h = (t, u, record { sort = sort; first_spelled = s; second_spelled = r }, h)
terms_come theory first second t u sort budget (Spent x) s r h = (t, u, record { sort = sort; first_spelled = s; second_spelled = r }, h)
terms_come theory first second t u sort budget (TooLarge x) s r h = (t, u, record { sort = sort; first_spelled = s; second_spelled = r }, h)
terms_come theory first second t u sort budget (Refused line kind) s r h = absurd h

-- a term that has no value, of either side
pub cause_comes : (theory : Theory) (x : Term) (t u : TermTree) (cause : Eval) (budget : ℕ) (a : Answer) → IsEvaluated theory t u budget (term_of x) →
    (cause ≡ causes.Spent → IsBeyond theory (term_of x) budget) → (cause ≡ causes.TooLarge → MeetsTooLarge theory (term_of x)) →
    AnswersCause x cause a → TermsCome theory t u budget a
cause_comes theory x t u causes.Spent budget a i spent large h = subst (TermsCome theory t u budget) (sym h) (i, spent refl)
cause_comes theory x t u causes.TooLarge budget a i spent large h = subst (TermsCome theory t u budget) (sym h) (i, large refl)
cause_comes theory x t u causes.Memory budget a i spent large h = absurd h

-- the same of the side that a fault tells
pub side_comes : (theory : Theory) (x : Term) (t u : TermTree) (e : SideFault) (side : Side) (cause : Eval) (budget : ℕ) (a : Answer) →
    e.side ≡ side → e.cause ≡ cause → term_of x ≡ at_side side t u → IsEvaluated theory t u budget (term_of x) →
    (e.cause ≡ causes.Spent → IsBeyond theory (at_side e.side t u) budget) →
    (e.cause ≡ causes.TooLarge → MeetsTooLarge theory (at_side e.side t u)) → AnswersCause x cause a → TermsCome theory t u budget a
side_comes theory x t u e side cause budget a at because is i spent large h =
    let same : at_side e.side t u ≡ term_of x = ap (λ z. at_side z t u) at ∙ sym is in
    cause_comes theory x t u cause budget a i (λ c. subst (λ z. IsBeyond theory z budget) same (spent (because ∙ c)))
    (λ c. subst (MeetsTooLarge theory) same (large (because ∙ c))) h

-- a text that spells no term
pub first_fault_comes : (theory : Theory) (first second : List ℕ) (budget : ℕ) (fault : ScriptFault) (a : Answer) →
    OnLine fault (λ line kind. IsTermFault theory first kind) → AnswersFault fault 1 a → Comes theory first second budget a
first_fault_comes theory first second budget (faults.Line told kind) a f h = subst (Comes theory first second budget) (sym h) (of_first f)
first_fault_comes theory first second budget faults.Memory a f h = absurd h

pub second_fault_comes : (theory : Theory) (first second : List ℕ) (budget : ℕ) (t : TermTree) (sort : ℕ) (fault : ScriptFault) (a : Answer) →
    SpellsTerm theory first t sort → OnLine fault (λ line kind. IsTermFault theory second kind) → AnswersFault fault 2 a →
    Comes theory first second budget a
second_fault_comes theory first second budget t sort (faults.Line told kind) a s f h =
    subst (Comes theory first second budget) (sym h) (of_second t sort s f)
second_fault_comes theory first second budget t sort faults.Memory a s f h = absurd h

-- two terms of two sorts
pub of_two_sorts_come : (theory : Theory) (first second : List ℕ) (t u : TermTree) (sort other : ℕ) →
    SpellsTerm theory first t sort → SpellsTerm theory second u other → (sort ≡ other → ⊥) → IsRefused theory first second 2 Sort
of_two_sorts_come theory first second t u sort other s r differ = of_two_sorts t u sort other s r differ
