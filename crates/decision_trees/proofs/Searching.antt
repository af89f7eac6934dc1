-- What searches in lists that wait come to.
use Rattle.std.proofs.Common.{ℕ, ◌≡◌, ◌++◌, List, [], ◌∷◌, filter, refl, sym, ap, ◌∙◌, Option, Bool, true, false, if◌then◌else◌}
use Rattle.std.specs.Prelude.{flat_map}
use Rattle.decision_trees.specs.Decisions.{Answers, Decision, ends, asks_items, asks_verdict, result, after}
use Rattle.decision_trees.specs.Lazy.{Lazy, nil, cons, waits, whole, of_list, joined, each, first, stops_at, first_holding, keeps, all_holding}
use Rattle.decision_trees.specs.Laws.{SearchesAreSo}

pub one_after : (I A R S : Type 0) (s : Answers I A) (c : Decision I A R) (f : R → Decision I A S) → result s (after c f) ≡ result s (f (result s c))
one_after I A R S s (ends r) f = refl
one_after I A R S s (asks_items g k) f = one_after I A R S s (k (s.items g)) f
one_after I A R S s (asks_verdict a k) f = one_after I A R S s (k (s.verdict a)) f

first_case : (I A : Type 0) (s : Answers I A) (a : A) (rest : Decision I A (Option A)) (xs : List A) (b : Bool) → result s rest ≡ first xs →
    result s (stops_at a rest b) ≡ first (if b then a ∷ xs else xs)
first_case I A s a rest xs true e = refl
first_case I A s a rest xs false e = e

pub firsts : (I A : Type 0) (s : Answers I A) (l : Lazy I A) → result s (first_holding l) ≡ first (filter s.verdict (whole s l))
firsts I A s nil = refl
firsts I A s (cons a l) = first_case I A s a (first_holding l) (filter s.verdict (whole s l)) (s.verdict a) (firsts I A s l)
firsts I A s (waits g k) = firsts I A s (k (s.items g))

all_case : (I A : Type 0) (s : Answers I A) (a : A) (rest : Decision I A (List A)) (xs : List A) (b : Bool) → result s rest ≡ xs →
    result s (keeps a rest b) ≡ (if b then a ∷ xs else xs)
all_case I A s a rest xs true e = one_after I A (List A) (List A) s rest (λ ys. ends (a ∷ ys)) ∙ ap (λ ys. a ∷ ys) e
all_case I A s a rest xs false e = e

pub alls : (I A : Type 0) (s : Answers I A) (l : Lazy I A) → result s (all_holding l) ≡ filter s.verdict (whole s l)
alls I A s nil = refl
alls I A s (cons a l) = all_case I A s a (all_holding l) (filter s.verdict (whole s l)) (s.verdict a) (alls I A s l)
alls I A s (waits g k) = alls I A s (k (s.items g))

listed : (I A : Type 0) (s : Answers I A) (xs : List A) → whole s (of_list {I = I} xs) ≡ xs
listed I A s [] = refl
listed I A s (x ∷ xs) = ap (λ l. x ∷ l) (listed I A s xs)

joins : (I A : Type 0) (s : Answers I A) (l m : Lazy I A) → whole s (joined l m) ≡ whole s l ++ whole s m
joins I A s nil m = refl
joins I A s (cons a l) m = ap (λ xs. a ∷ xs) (joins I A s l m)
joins I A s (waits g k) m = joins I A s (k (s.items g)) m

flat : (I A B : Type 0) (s : Answers I A) (t : Answers I B) → ((g : ℕ) → s.items g ≡ t.items g) → (f : A → Lazy I B) (l : Lazy I A) →
    whole t (each f l) ≡ flat_map (λ a. whole t (f a)) (whole s l)
flat I A B s t same f nil = refl
flat I A B s t same f (cons a l) = joins I B t (f a) (each f l) ∙ ap (λ xs. whole t (f a) ++ xs) (flat I A B s t same f l)
flat I A B s t same f (waits g k) = ap (λ xs. whole t (each f (k xs))) (sym (same g)) ∙ flat I A B s t same f (k (s.items g))

pub searches_are_so : (I A B R S : Type 0) → SearchesAreSo I A B R S
searches_are_so I A B R S = record {
  one_after_another = one_after I A R S;
  firsts = firsts I A;
  alls = alls I A;
  listed = listed I A;
  joins = joins I A;
  flat = flat I A B;
}
