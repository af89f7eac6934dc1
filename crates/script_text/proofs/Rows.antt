-- Each line of the definitions of faults as a lemma, and what a fault that is handed on comes to.
use Rattle.std.proofs.Common.{ℕ, ◌≡◌, List, true, false, Some, None, sym, subst}
use Rattle.std.specs.List.{list_any}
use Rattle.lotos_ast.specs.declared.text_kind.TextKind.{TextKind}
use Rattle.lotos_ast.specs.declared.text_kind.TextKind.TheVariants.{Form, Client, Gate, Sort, Term}
use Rattle.lotos_ast.specs.Notation.{part, expression}
use Rattle.lotos_ast.specs.Reads.{Tree}
use Rattle.spec_core.specs.Lists.{OneOf}
use Rattle.spec_core.specs.Terms.{TermTree}
use Rattle.spec_core.specs.Theories.{Theory}
use Rattle.sort_overloads.specs.Expressions as expressions
use Rattle.sort_overloads.specs.Overloads.{IsOnlyReading}
use Rattle.sort_overloads.specs.Readings.{Context}
use Rattle.script_text.specs.Answers.{OnKind}
use Rattle.script_text.specs.declared.fault.LineFault.{LineFault}
use Rattle.script_text.specs.declared.fault.LineFault.TheVariants.{Kind, Memory}
use Rattle.script_text.specs.Faults.{IsOfferFault, no_gate, no_sort, no_term, IsFaultOf, no_client, by_offer, IsLineFault, no_line, by_meaning}
use Rattle.script_text.specs.Meanings.{context_in, first_named, has_unknown_sort, says_unknown_sort, IsUnclear, HasUnclearTerm, FieldsMean, OfferMeans, LineMeans}
use Rattle.script_text.specs.Numbers.{client_of}
use Rattle.script_text.specs.Scripts.{LineSays, nothing_said, wish_said}
use Rattle.script_text.specs.Terms.{SpellsTerm, IsTermFault, no_expression, unknown_sort, unclear}
use Rattle.script_text.specs.Texts.{IsTextOf, IsNoTextOf}
use Rattle.script_text.specs.Wishes.{Wished, ClientWish}
use Rattle.script_text.specs.Written.{Field, Line, IsLine, IsNoLine, is_skipped, skipped}

pub handed_on : (e : LineFault) (P Q : TextKind → Type 0) → ((kind : TextKind) → P kind → Q kind) → OnKind e P → OnKind e Q
handed_on (Kind kind) P Q f h = f kind h
handed_on Memory P Q f h = tt

pub handed_on_both : (e : LineFault) (P R Q : TextKind → Type 0) → ((kind : TextKind) → P kind → R kind → Q kind) → OnKind e P → OnKind e R → OnKind e Q
handed_on_both (Kind kind) P R Q f h k = f kind h k
handed_on_both Memory P R Q f h k = tt

-- an offer
pub gate_at : (c : Context) (gates : List (List ℕ)) (name : List ℕ) (fields : List Field) → first_named name gates ≡ None →
    IsOfferFault c gates name fields Gate
gate_at c gates name fields h = no_gate h

pub sort_at : (c : Context) (gates : List (List ℕ)) (name : List ℕ) (fields : List Field) (gate : ℕ) → first_named name gates ≡ Some gate →
    list_any (has_unknown_sort c) fields ≡ true → IsOfferFault c gates name fields Sort
sort_at c gates name fields gate h k = no_sort gate h k

pub term_at : (c : Context) (gates : List (List ℕ)) (name : List ℕ) (fields : List Field) (gate : ℕ) (e : LineFault) →
    first_named name gates ≡ Some gate → list_any (has_unknown_sort c) fields ≡ false → OnKind e (λ kind. kind ≡ Term) →
    OnKind e (λ kind. OneOf (HasUnclearTerm c) fields) → OnKind e (IsOfferFault c gates name fields)
term_at c gates name fields gate (Kind kind) h k i j = subst (IsOfferFault c gates name fields) (sym i) (no_term gate h k j)
term_at c gates name fields gate Memory h k i j = tt

pub offer_at : (c : Context) (gates : List (List ℕ)) (name : List ℕ) (fields : List Field) (w : Wished) → first_named name gates ≡ Some w.gate →
    FieldsMean c fields w.fields → OfferMeans c gates name fields w
offer_at c gates name fields w h k = record { gate = h; meant = k }

pub ruleset offer_rows = (gate_at, sort_at, term_at, offer_at)

-- what a line says
pub client_at : (c : Context) (gates : List (List ℕ)) (l : Line) → client_of l.client ≡ None → IsFaultOf c gates l Client
client_at c gates l h = no_client h

pub by_offer_at : (c : Context) (gates : List (List ℕ)) (l : Line) (client : ℕ) (e : LineFault) → client_of l.client ≡ Some client →
    OnKind e (IsOfferFault c gates l.gate l.fields) → OnKind e (IsFaultOf c gates l)
by_offer_at c gates l client (Kind kind) h k = by_offer client h k
by_offer_at c gates l client Memory h k = tt

pub meaning_at : (c : Context) (gates : List (List ℕ)) (l : Line) (x : ClientWish) → client_of l.client ≡ Some x.client → x.wish.ask ≡ l.asks →
    OfferMeans c gates l.gate l.fields x.wish → LineMeans c gates l x
meaning_at c gates l x h i j = record { client = h; ask = i; offer = j }

pub ruleset meaning_rows = (client_at, by_offer_at, meaning_at)

-- a line
pub nothing_at : (c : Context) (gates : List (List ℕ)) (text : List ℕ) → is_skipped text ≡ true → LineSays c gates text None
nothing_at c gates text h = nothing_said (skipped h)

pub wish_at : (c : Context) (gates : List (List ℕ)) (text : List ℕ) (l : Line) (x : ClientWish) → IsLine text (Some l) → LineMeans c gates l x →
    LineSays c gates text (Some x)
wish_at c gates text l x h k = wish_said l x h k

pub no_line_at : (c : Context) (gates : List (List ℕ)) (text : List ℕ) (e : LineFault) → OnKind e (λ kind. kind ≡ Form) →
    OnKind e (λ kind. IsNoLine text) → OnKind e (IsLineFault c gates text)
no_line_at c gates text (Kind kind) h k = subst (IsLineFault c gates text) (sym h) (no_line k)
no_line_at c gates text Memory h k = tt

pub fault_at : (c : Context) (gates : List (List ℕ)) (text : List ℕ) (l : Line) (e : LineFault) → IsLine text (Some l) →
    OnKind e (IsFaultOf c gates l) → OnKind e (IsLineFault c gates text)
fault_at c gates text l (Kind kind) h k = by_meaning l h k
fault_at c gates text l Memory h k = tt

pub ruleset line_rows = (nothing_at, wish_at, no_line_at, fault_at)

-- a term
pub spelled_at : (theory : Theory) (c : Context) (text : List ℕ) (tree : Tree) (t : TermTree) (sort : ℕ) → IsTextOf (part expression) text tree →
    c ≡ context_in theory → IsOnlyReading c (expressions.expression tree) None t sort → SpellsTerm theory text t sort
spelled_at theory c text tree t sort h e k =
    record { tree = tree; written = h; reading = subst (λ z. IsOnlyReading z (expressions.expression tree) None t sort) e k }

pub no_expression_at : (theory : Theory) (text : List ℕ) (e : LineFault) → OnKind e (λ kind. kind ≡ Form) →
    OnKind e (λ kind. IsNoTextOf (part expression) text) → OnKind e (IsTermFault theory text)
no_expression_at theory text (Kind kind) h k = subst (IsTermFault theory text) (sym h) (no_expression k)
no_expression_at theory text Memory h k = tt

pub unknown_sort_at : (theory : Theory) (c : Context) (text : List ℕ) (tree : Tree) → IsTextOf (part expression) text tree →
    c ≡ context_in theory → says_unknown_sort c (expressions.expression tree) ≡ true → IsTermFault theory text Sort
unknown_sort_at theory c text tree h e k =
    unknown_sort tree h (subst (λ z. says_unknown_sort z (expressions.expression tree) ≡ true) e k)

pub unclear_at : (theory : Theory) (c : Context) (text : List ℕ) (tree : Tree) (e : LineFault) → IsTextOf (part expression) text tree →
    c ≡ context_in theory → says_unknown_sort c (expressions.expression tree) ≡ false → OnKind e (λ kind. kind ≡ Term) →
    OnKind e (λ kind. IsUnclear c (expressions.expression tree)) → OnKind e (IsTermFault theory text)
unclear_at theory c text tree (Kind kind) h i k j m =
    subst (IsTermFault theory text) (sym j)
    (unclear tree h (subst (λ z. says_unknown_sort z (expressions.expression tree) ≡ false) i k)
    (subst (λ z. IsUnclear z (expressions.expression tree)) i m))
unclear_at theory c text tree Memory h i k j m = tt

pub ruleset term_rows = (spelled_at, no_expression_at, unknown_sort_at, unclear_at)
