-- Lists of operations are read as the values that they spell.
use Rattle.std.proofs.Common.{ℕ, zero, suc, ◌≡◌, ◌⊎◌, inl, inr, List, [], ◌∷◌, ◌++◌, Option, Some, None, length, take, drop, refl, sym}
use Rattle.std.proofs.Common.{ap, subst, ◌∙◌, append_assoc}
use Rattle.std.proofs.Common.{Bool, true, false, if◌then◌else◌, ◌==◌}
use Rattle.std.proofs.lemmas.Bool.{eqb-true}
use Rattle.std.proofs.lemmas.List.{append-nil}
use Rattle.std.proofs.Math.Seq.{take-append_seam, drop-append_seam}
use Rattle.std.specs.List.{slice_get}
use Rattle.spec_core.specs.Terms.{TermTree, TermTrees, variable, apply, no_terms, and_term, terms, preorder, preorders, IsGround}
use Rattle.spec_core.specs.Terms.{AreGround}
use Rattle.spec_core.specs.Theories.{Theory, Operation}
use Rattle.spec_core.specs.Sorts.{OnSome, HasSort, HaveSorts, no_variables}
use Rattle.rule_model.specs.Substitution.{Assignment, with_term}
use Rattle.rule_laws.specs.Closing.{IsClosing}
use Rattle.rule_origins.specs.Laws.{ValuesAreRead, ValuesClose}
use Rattle.rule_origins.specs.Values.{arguments_of, arity, in_front, terms_spelled, first_or_variable, term_spelled, with_values}
use Rattle.rule_origins.specs.Values.{assignment}

abbrev items : TermTrees → List TermTree
items no_terms = []
items (and_term t ts) = t ∷ items ts

terms_of_items : (ts : TermTrees) → terms (items ts) ≡ ts
terms_of_items no_terms = refl
terms_of_items (and_term t ts) = ap (and_term t) (terms_of_items ts)

module _ (theory : Theory) where
  as_many : (ts : TermTrees) (sorts : List ℕ) → HaveSorts theory no_variables ts sorts → length sorts ≡ length (items ts)
  as_many no_terms [] h = refl
  as_many no_terms (s ∷ sorts) h = absurd h
  as_many (and_term t ts) [] h = absurd h
  as_many (and_term t ts) (s ∷ sorts) h = ap suc (as_many ts sorts h.1)

  arguments_fit : (o : Option Operation) (sort : ℕ) (ts : TermTrees) →
      OnSome o (λ d. (d.result ≡ sort) × HaveSorts theory no_variables ts d.args) →
      (sorts : List ℕ) × HaveSorts theory no_variables ts sorts × (length (items ts) ≡ arguments_of o)
  arguments_fit None sort ts h = absurd h
  arguments_fit (Some d) sort ts h = (d.args, h.1, sym (as_many ts d.args h.1))

  apart : (f k : ℕ) (xs rest : List TermTree) → length xs ≡ k →
      ◌≡◌ {A = List TermTree} (apply f (terms (take k (xs ++ rest))) ∷ drop k (xs ++ rest)) (apply f (terms xs) ∷ rest)
  apart f k xs rest e =
      subst (λ n. ◌≡◌ {A = List TermTree} (apply f (terms (take n (xs ++ rest))) ∷ drop n (xs ++ rest)) (apply f (terms xs) ∷ rest)) e
      (ap (λ l. apply f (terms l) ∷ drop (length xs) (xs ++ rest)) (take-append_seam xs rest)
      ∙ ap (λ l. apply f (terms xs) ∷ l) (drop-append_seam xs rest))

  mutual
    read_one : (t : TermTree) (sort : ℕ) → HasSort theory no_variables t sort → (r : List ℕ) →
        terms_spelled theory (preorder t ++ r) ≡ t ∷ terms_spelled theory r
    read_one (variable x) sort h r = let n : ⊥ = cc in absurd n
    read_one (apply f ts) sort h r =
        let fit = arguments_fit (slice_get theory.operations f) sort ts h in
        ap (in_front theory f) (read_all ts fit.0 fit.1 r)
        ∙ apart f (arity theory f) (items ts) (terms_spelled theory r) fit.2
        ∙ ap (λ us. apply f us ∷ terms_spelled theory r) (terms_of_items ts)

    read_all : (ts : TermTrees) (sorts : List ℕ) → HaveSorts theory no_variables ts sorts → (r : List ℕ) →
        terms_spelled theory (preorders ts ++ r) ≡ items ts ++ terms_spelled theory r
    read_all no_terms sorts h r = refl
    read_all (and_term t ts) [] h r = absurd h
    read_all (and_term t ts) (s ∷ sorts) h r =
        ap (terms_spelled theory) (append_assoc (preorder t) (preorders ts) r)
        ∙ read_one t s h.0 (preorders ts ++ r)
        ∙ ap (λ l. t ∷ l) (read_all ts sorts h.1 r)

pub values_are_read : ValuesAreRead
values_are_read theory x v n sort h =
    ap (term_spelled theory x) (h.spelled ∙ sym (append-nil (preorder n)))
    ∙ ap (first_or_variable x) (read_one theory n sort h.of_sort [])

-- what is read has no variables
module _ (theory : Theory) where
  abbrev AllGround : List TermTree → Type 0
  AllGround [] = Unit {0}
  AllGround (t ∷ ts) = IsGround t × AllGround ts

  some_ground : (k : ℕ) (ts : List TermTree) → AllGround ts → AreGround (terms (take k ts))
  some_ground zero ts h = tt
  some_ground (suc k) [] h = tt
  some_ground (suc k) (t ∷ ts) h = (h.0, some_ground k ts h.1)

  others_ground : (k : ℕ) (ts : List TermTree) → AllGround ts → AllGround (drop k ts)
  others_ground zero ts h = h
  others_ground (suc k) [] h = tt
  others_ground (suc k) (t ∷ ts) h = others_ground k ts h.1

  all_ground : (v : List ℕ) → AllGround (terms_spelled theory v)
  all_ground [] = tt
  all_ground (f ∷ fs) = (
    some_ground (arity theory f) (terms_spelled theory fs) (all_ground fs),
    others_ground (arity theory f) (terms_spelled theory fs) (all_ground fs),
  )

  first_closes : (x : ℕ) (ts : List TermTree) → AllGround ts → IsGround (first_or_variable x ts) ⊎ (first_or_variable x ts ≡ variable x)
  first_closes x [] h = inr refl
  first_closes x (t ∷ ts) h = inl h.0

  read_closes : (x : ℕ) (v : List ℕ) → IsGround (term_spelled theory x v) ⊎ (term_spelled theory x v ≡ variable x)
  read_closes x v = first_closes x (terms_spelled theory v) (all_ground v)

  closing_with : (x : ℕ) (t : TermTree) (s : Assignment) → IsGround t ⊎ (t ≡ variable x) → IsClosing s →
      IsClosing (with_term (record { number = x; sort = 0 }) t s)
  closing_with x t s here closing y = by_test (y == x) refl here
    where
      by_test : (b : Bool) → y == x ≡ b → IsGround t ⊎ (t ≡ variable x) →
          IsGround (if b then t else s y) ⊎ ((if b then t else s y) ≡ variable y)
      by_test true e (inl g) = inl g
      by_test true e (inr i) = inr (i ∙ ap variable (sym (eqb-true y x e)))
      by_test false e h = closing y

  with_values_closes : (values : List (ℕ × List ℕ)) (s : Assignment) → IsClosing s → IsClosing (with_values theory values s)
  with_values_closes [] s h = h
  with_values_closes (b ∷ values) s h =
      with_values_closes values (with_term (record { number = b.0; sort = 0 }) (term_spelled theory b.0 b.1) s)
      (closing_with b.0 (term_spelled theory b.0 b.1) s (read_closes b.0 b.1) h)

pub values_close : ValuesClose
unfolding assignment
values_close theory values = with_values_closes theory values variable (λ x. inr refl)
