-- A text spells one term or has one fault.
use Rattle.std.proofs.Common.{ℕ, ◌≡◌, List, true, false, None, refl, subst, ap}
use Rattle.lotos_ast.specs.Notation.{part, expression}
use Rattle.lotos_ast.specs.Reads.{Tree}
use Rattle.spec_core.specs.Sorts.{HasSort, no_variables}
use Rattle.spec_core.specs.Terms.{TermTree}
use Rattle.spec_core.specs.Theories.{Theory}
use Rattle.sort_overloads.specs.Expressions as expressions
use Rattle.sort_overloads.specs.Overloads.{IsOnlyReading}
use Rattle.sort_overloads.specs.Readings.{Context}
use Rattle.script_text.specs.Laws.{OneTerm, OneTermFault, TermOrFault}
use Rattle.script_text.specs.Meanings.{context_in, says_unknown_sort}
use Rattle.script_text.specs.Terms.{SpellsTerm, no_expression, unknown_sort, unclear}
use Rattle.script_text.specs.Texts.{IsTextOf}
use Rattle.script_text.proofs.OneReadings.{reading_sorts_known, reading_sort}
use Rattle.script_text.proofs.WholeTexts.{one_text}

pub one_term : OneTerm
one_term theory text t u sort other h k =
    let r : IsOnlyReading (context_in theory) (expressions.expression h.tree) None u other =
    subst (λ tree. IsOnlyReading (context_in theory) (expressions.expression tree) None u other) (one_text k.written h.written) k.reading in
    (r.only t sort tt h.reading.reading)

not_both : (c : Context) (x y : Tree) → x ≡ y → says_unknown_sort c (expressions.expression x) ≡ true →
    says_unknown_sort c (expressions.expression y) ≡ false → ⊥
not_both c x y e h k = let f : says_unknown_sort c (expressions.expression x) ≡ says_unknown_sort c (expressions.expression y) = ap (λ z. says_unknown_sort c (expressions.expression z)) e in cc

pub one_term_fault : OneTermFault
one_term_fault theory text _ _ (no_expression h) (no_expression k) = refl
one_term_fault theory text _ _ (no_expression h) (unknown_sort y i k) = absurd (h.none y i)
one_term_fault theory text _ _ (no_expression h) (unclear y i k l) = absurd (h.none y i)
one_term_fault theory text _ _ (unknown_sort x i h) (no_expression k) = absurd (k.none x i)
one_term_fault theory text _ _ (unknown_sort x i h) (unknown_sort y j k) = refl
one_term_fault theory text _ _ (unknown_sort x i h) (unclear y j k l) = absurd (not_both (context_in theory) x y (one_text i j) h k)
one_term_fault theory text _ _ (unclear x i h g) (no_expression k) = absurd (k.none x i)
one_term_fault theory text _ _ (unclear x i h g) (unknown_sort y j k) = absurd (not_both (context_in theory) y x (one_text j i) k h)
one_term_fault theory text _ _ (unclear x i h g) (unclear y j k l) = refl

read_there : (theory : Theory) (text : List ℕ) (t : TermTree) (sort : ℕ) (h : SpellsTerm theory text t sort) (x : Tree) →
    IsTextOf (part expression) text x → IsOnlyReading (context_in theory) (expressions.expression x) None t sort
read_there theory text t sort h x i =
    subst (λ tree. IsOnlyReading (context_in theory) (expressions.expression tree) None t sort) (one_text h.written i) h.reading

pub term_or_fault : TermOrFault
term_or_fault theory text t sort _ h (no_expression k) = k.none h.tree h.written
term_or_fault theory text t sort _ h (unknown_sort x i k) =
    let known : says_unknown_sort (context_in theory) (expressions.expression x) ≡ false =
    reading_sorts_known (context_in theory) (expressions.expression x) t sort (read_there theory text t sort h x i).reading in cc
term_or_fault theory text t sort _ h (unclear x i k l) = l.none t sort (read_there theory text t sort h x i)

-- a term that a text spells is ground
pub term_sorted : (theory : Theory) (text : List ℕ) (t : TermTree) (sort : ℕ) → SpellsTerm theory text t sort → HasSort theory no_variables t sort
term_sorted theory text t sort h = reading_sort theory (expressions.expression h.tree) t sort h.reading.reading
