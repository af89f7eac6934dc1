-- What else holds of the answer to a term.
use Rattle.std.proofs.Common.{ℕ, ◌≡◌, List, Result, Ok, Err, IfOk}
use Rattle.lotos_ast.specs.declared.text_kind.TextKind.{TextKind}
use Rattle.sort_overloads.specs.declared.resolution.TypedTerm.{TypedTerm}
use Rattle.spec_core.specs.Sorts.{HasSort, no_variables}
use Rattle.spec_core.specs.Terms.{TermTree, term_of}
use Rattle.spec_core.specs.Theories.{Theory}
use Rattle.script_text.specs.declared.fault.ScriptFault.{ScriptFault}
use Rattle.script_text.specs.declared.fault.ScriptFault.TheVariants.{Line, Memory}
use Rattle.script_text.specs.Answers.{IfLine}
use Rattle.script_text.specs.Terms.{SpellsTerm, IsTermFault}
use Rattle.script_text.proofs.OneTerm.{one_term, one_term_fault, term_or_fault, term_sorted}

abbrev pub Answer : Type 0
Answer = Result TypedTerm ScriptFault

pub only_answer : (theory : Theory) (text : List ℕ) (r : Answer) → IfOk r (λ t. SpellsTerm theory text (term_of t.term) t.sort.0) →
    IfOk r (λ t. (other : TermTree) (sort : ℕ) → SpellsTerm theory text other sort → (other ≡ term_of t.term) × (sort ≡ t.sort.0))
only_answer theory text (Ok t) h = λ other sort k. one_term theory text other (term_of t.term) sort t.sort.0 k h
only_answer theory text (Err e) h = tt

pub sorted_answer : (theory : Theory) (text : List ℕ) (r : Answer) → IfOk r (λ t. SpellsTerm theory text (term_of t.term) t.sort.0) →
    IfOk r (λ t. HasSort theory no_variables (term_of t.term) t.sort.0)
sorted_answer theory text (Ok t) h = term_sorted theory text (term_of t.term) t.sort.0 h
sorted_answer theory text (Err e) h = tt

pub faultless_answer : (theory : Theory) (text : List ℕ) (r : Answer) → IfOk r (λ t. SpellsTerm theory text (term_of t.term) t.sort.0) →
    IfOk r (λ t. (kind : TextKind) → IsTermFault theory text kind → ⊥)
faultless_answer theory text (Ok t) h = λ kind k. term_or_fault theory text (term_of t.term) t.sort.0 kind h k
faultless_answer theory text (Err e) h = tt

pub only_answer_fault : (theory : Theory) (text : List ℕ) (r : Answer) → IfLine r (λ line kind. IsTermFault theory text kind) →
    IfLine r (λ line kind. (other : TextKind) → IsTermFault theory text other → other ≡ kind)
only_answer_fault theory text (Ok t) h = tt
only_answer_fault theory text (Err (Line line kind)) h = λ other k. one_term_fault theory text other kind k h
only_answer_fault theory text (Err Memory) h = tt

pub no_answer : (theory : Theory) (text : List ℕ) (r : Answer) → IfLine r (λ line kind. IsTermFault theory text kind) →
    IfLine r (λ line kind. (t : TermTree) (sort : ℕ) → SpellsTerm theory text t sort → ⊥)
no_answer theory text (Ok t) h = tt
no_answer theory text (Err (Line line kind)) h = λ t sort k. term_or_fault theory text t sort kind k h
no_answer theory text (Err Memory) h = tt
