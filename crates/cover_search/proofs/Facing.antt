-- Lists of rows and patterns from a place on.
use Rattle.std.proofs.Common.{ℕ, zero, suc, ◌≡◌, ◌<◌, ◌≤◌, ◌+◌, List, [], ◌∷◌, Option, Some, None, length, map, drop, get_or, slice_set, true, add-one, inl, inr, ◌⊎◌, refl, ap, sym, subst, ◌∙◌, arith}
use Rattle.std.specs.Option.{is_some}
use Rattle.spec_core.specs.declared.term.Term.{Term}
use Rattle.spec_core.specs.Terms.{TermTree, TermTrees, variable, apply, and_term, no_terms, terms, term_of}
use Rattle.equation_shapes.specs.Shapes.{IsOfShape, AreOfShape, Meets, MeetAll}
use Rattle.cover_search.specs.Search.{or_else, faced, faced_any, first_faced, opened, opened_any}

or_else_none : (o q : Option ℕ) → or_else o q ≡ None → (o ≡ None) × (q ≡ None)
or_else_none None q e = (refl, e)
or_else_none (Some x) q e = absurd (cc)

abbrev from : ℕ → List Term → TermTrees
from i xs = terms (map term_of (drop i xs))

faced_suc : (rows patterns : List Term) (i : ℕ) (r p : Term) → i < length rows → i < length patterns → r ≡ get_or rows i r → p ≡ get_or patterns i p → faced_any (from i rows) (from i patterns) ≡ or_else (faced (term_of r) (term_of p)) (faced_any (from (suc i) rows) (from (suc i) patterns))
faced_suc [] patterns i r p w v a b = absurd (omega arith)
faced_suc (x ∷ rows) [] i r p w v a b = absurd (omega arith)
faced_suc (x ∷ rows) (y ∷ patterns) zero r p w v a b = ap (λ t. or_else (faced (term_of t) (term_of y)) (faced_any (terms (map term_of rows)) (terms (map term_of patterns)))) (sym a) ∙ ap (λ t. or_else (faced (term_of r) (term_of t)) (faced_any (terms (map term_of rows)) (terms (map term_of patterns)))) (sym b)
faced_suc (x ∷ rows) (y ∷ patterns) (suc i) r p w v a b = faced_suc rows patterns i r p (omega arith) (omega arith) a b

pub faced_next : (rows patterns : List Term) (i : ℕ) (r p : Term) → i < length rows → i < length patterns → r ≡ get_or rows i r → p ≡ get_or patterns i p → faced_any (from i rows) (from i patterns) ≡ or_else (faced (term_of r) (term_of p)) (faced_any (from (i + 1) rows) (from (i + 1) patterns))
faced_next rows patterns i r p w v a b = rw add-one (faced_suc rows patterns i r p w v a b)

faced_none : (rs : TermTrees) → faced_any rs no_terms ≡ None
faced_none no_terms = refl
faced_none (and_term r rs) = refl

pub faced_short : (rows patterns : List Term) (i : ℕ) → length patterns ≤ i → faced_any (from i rows) (from i patterns) ≡ None
faced_short rows [] zero w = faced_none (from zero rows)
faced_short rows [] (suc i) w = faced_none (from (suc i) rows)
faced_short [] (y ∷ patterns) zero w = absurd (omega arith)
faced_short (x ∷ rows) (y ∷ patterns) zero w = absurd (omega arith)
faced_short [] (y ∷ patterns) (suc i) w = refl
faced_short (x ∷ rows) (y ∷ patterns) (suc i) w = faced_short rows patterns i (omega arith)

pub faced_over : (rows patterns : List Term) (i : ℕ) → length rows ≤ i → faced_any (from i rows) (from i patterns) ≡ None
faced_over [] patterns zero w = refl
faced_over [] patterns (suc i) w = refl
faced_over (x ∷ rows) patterns zero w = absurd (omega arith)
faced_over (x ∷ rows) [] (suc i) w = faced_none (from i rows)
faced_over (x ∷ rows) (y ∷ patterns) (suc i) w = faced_over rows patterns i (omega arith)

-- no pattern before this place has a variable that faces an operation
abbrev pub NotFaced : ℕ → List Term → List Term → Type 0
NotFaced zero rows patterns = Unit {0}
NotFaced (suc i) (r ∷ rows) (p ∷ patterns) = (faced (term_of r) (term_of p) ≡ None) × NotFaced i rows patterns
NotFaced (suc i) [] patterns = Unit {0}
NotFaced (suc i) (r ∷ rows) [] = Unit {0}

not_faced_suc : (rows patterns : List Term) (i : ℕ) (p : Term) → NotFaced i rows patterns → i < length patterns →
    p ≡ get_or patterns i p → ((r : Term) → i < length rows → r ≡ get_or rows i r → faced (term_of r) (term_of p) ≡ None) →
    NotFaced (suc i) rows patterns
not_faced_suc [] patterns i p n w b h = tt
not_faced_suc (x ∷ rows) [] i p n w b h = tt
not_faced_suc (x ∷ rows) (y ∷ patterns) zero p n w b h = (subst (λ t. faced (term_of x) (term_of t) ≡ None) b (h x (omega arith) refl), tt)
not_faced_suc (x ∷ rows) (y ∷ patterns) (suc i) p n w b h =
    (n.0, not_faced_suc rows patterns i p n.1 (omega arith) b (λ r v a. h r (omega (arith, v)) a))

pub not_faced_next : (rows patterns : List Term) (i : ℕ) (p : Term) → NotFaced i rows patterns → i < length patterns →
    p ≡ get_or patterns i p → ((r : Term) → i < length rows → r ≡ get_or rows i r → faced (term_of r) (term_of p) ≡ None) →
    NotFaced (i + 1) rows patterns
not_faced_next rows patterns i p n w b h = rw add-one (not_faced_suc rows patterns i p n w b h)

-- where no pattern has one, opening changes nothing
pub opened_nowhere : (u : TermTree) (rows patterns : List Term) (i : ℕ) → NotFaced i rows patterns → length patterns ≤ i →
    opened_any u (terms (map term_of rows)) (terms (map term_of patterns)) ≡ terms (map term_of patterns)
opened_nowhere u [] patterns i n w = refl
opened_nowhere u (r ∷ rows) [] i n w = refl
opened_nowhere u (r ∷ rows) (p ∷ patterns) zero n w = absurd (omega arith)
opened_nowhere u (r ∷ rows) (p ∷ patterns) (suc i) n w =
    let k = opened_nowhere u rows patterns i n.1 (omega arith) in
    ap (λ o. first_faced o (and_term (opened u (term_of r) (term_of p)) (terms (map term_of patterns))) (and_term (term_of p) (opened_any u (terms (map term_of rows)) (terms (map term_of patterns))))) n.0 ∙ ap (and_term (term_of p)) k

-- the first that has one is the one that is opened
pub opened_there : (u : TermTree) (rows patterns all : List Term) (i s : ℕ) (r p t : Term) → NotFaced i rows patterns → i < length rows →
    i < length patterns → r ≡ get_or rows i r → p ≡ get_or patterns i p → faced (term_of r) (term_of p) ≡ Some s →
    term_of t ≡ opened u (term_of r) (term_of p) → map term_of all ≡ map term_of patterns →
    terms (map term_of (slice_set all i t)) ≡ opened_any u (terms (map term_of rows)) (terms (map term_of patterns))
opened_there u [] patterns all i s r p t n w v a b e h m = absurd (omega arith)
opened_there u (x ∷ rows) [] all i s r p t n w v a b e h m = absurd (omega arith)
opened_there u (x ∷ rows) (y ∷ patterns) [] i s r p t n w v a b e h m = cc
opened_there u (x ∷ rows) (y ∷ patterns) (z ∷ all) zero s r p t n w v a b e h m =
    let e' : faced (term_of x) (term_of y) ≡ Some s = subst (λ k. faced (term_of k) (term_of y) ≡ Some s) a (subst (λ k. faced (term_of r) (term_of k) ≡ Some s) b e) in
    let h' : term_of t ≡ opened u (term_of x) (term_of y) = subst (λ k. term_of t ≡ opened u (term_of k) (term_of y)) a (subst (λ k. term_of t ≡ opened u (term_of r) (term_of k)) b h) in
    let m' : map term_of all ≡ map term_of patterns = cc in
    ap (λ k. and_term k (terms (map term_of all))) h' ∙ ap (λ k. and_term (opened u (term_of x) (term_of y)) (terms k)) m'
    ∙ ap (λ o. first_faced o (and_term (opened u (term_of x) (term_of y)) (terms (map term_of patterns))) (and_term (term_of y) (opened_any u (terms (map term_of rows)) (terms (map term_of patterns))))) (sym e')
opened_there u (x ∷ rows) (y ∷ patterns) (z ∷ all) (suc i) s r p t n w v a b e h m =
    let m' : map term_of all ≡ map term_of patterns = cc in
    let z' : term_of z ≡ term_of y = cc in
    let k = opened_there u rows patterns all i s r p t n.1 (omega arith) (omega arith) a b e h m' in
    ap (λ q. and_term q (terms (map term_of (slice_set all i t)))) z' ∙ ap (and_term (term_of y)) k
    ∙ ap (λ o. first_faced o (and_term (opened u (term_of x) (term_of y)) (terms (map term_of patterns))) (and_term (term_of y) (opened_any u (terms (map term_of rows)) (terms (map term_of patterns))))) (sym n.0)

pub faced_skip : (w : Option ℕ) (rows patterns : List Term) (i : ℕ) (r p : Term) → i < length rows → i < length patterns →
    r ≡ get_or rows i r → p ≡ get_or patterns i p → faced (term_of r) (term_of p) ≡ None → w ≡ faced_any (from i rows) (from i patterns) →
    w ≡ faced_any (from (i + 1) rows) (from (i + 1) patterns)
faced_skip w rows patterns i r p lr lp a b e h =
    h ∙ faced_next rows patterns i r p lr lp a b ∙ ap (λ o. or_else o (faced_any (from (i + 1) rows) (from (i + 1) patterns))) e

pub is_there : {A : Type 0} (o : Option A) → is_some o ≡ true → (s : A) × (o ≡ Some s)
is_there None e = absurd (cc)
is_there (Some s) e = (s, refl)

pub same_item : (rows : List Term) (i : ℕ) (r t : Term) → i < length rows → r ≡ get_or rows i r → t ≡ get_or rows i t → r ≡ t
same_item [] i r t w a b = absurd (omega arith)
same_item (x ∷ rows) zero r t w a b = a ∙ sym b
same_item (x ∷ rows) (suc i) r t w a b = same_item rows i r t (omega arith) a b

-- a row that meets a pattern, none of whose variables faces an operation of it, covers it
mutual
  pub covers_if : (r p : TermTree) → Meets r p → faced r p ≡ None → IsOfShape r p
  covers_if (variable x) p m e = tt
  covers_if (apply g rs) (variable s) m e = absurd (cc)
  covers_if (apply g rs) (apply f ps) m e = (m.0, all_cover_if rs ps m.1 e)

  pub all_cover_if : (rs ps : TermTrees) → MeetAll rs ps → faced_any rs ps ≡ None → AreOfShape rs ps
  all_cover_if no_terms no_terms m e = tt
  all_cover_if no_terms (and_term p ps) m e = absurd m
  all_cover_if (and_term r rs) no_terms m e = absurd m
  all_cover_if (and_term r rs) (and_term p ps) m e =
      let k = or_else_none (faced r p) (faced_any rs ps) e in (covers_if r p m.0 k.0, all_cover_if rs ps m.1 k.1)

pub some_or_none : (o : Option ℕ) → ((s : ℕ) × (o ≡ Some s)) ⊎ (o ≡ None)
some_or_none None = inr refl
some_or_none (Some s) = inl (s, refl)
