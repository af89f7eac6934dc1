-- A group among the equations of its key is one among all.
use Rattle.std.proofs.Common.{ℕ, ◌≡◌, ◌∙◌, nat_eq, refl, sym, ap, subst, List, [], ◌∷◌, Bool, true, false, Result, Ok, Err, IfOk, inl, inr, if◌then◌else◌}
use Rattle.std.specs.List.{filter}
use Rattle.std.proofs.lemmas.Bool.{eq-eqb}
use Rattle.spec_core.specs.Cover.{IsGroup, IsOfGroup}
use Rattle.spec_core.specs.Lists.{OneOf}
use Rattle.spec_core.specs.Terms.{TermTree, TermTrees, variable, apply, no_terms, and_term, instance, instances}
use Rattle.spec_core.specs.Theories.{Premise, ConditionalEquation, Theory}
use Rattle.type_images.specs.Groups.{mixed, term_key, terms_key, key_of}
use Rattle.cover_search.specs.Lefts.{keyed}
use Rattle.cover_search.proofs.Heading.{each_back, false_true}
use Rattle.cover_groups.specs.Groups.{AllFrom, AllGive}

one_back : {A : Type 0} (P : A → Type 0) (p : A → Bool) (xs : List A) → OneOf P (filter p xs) → OneOf P xs
one_back P p [] o = o
one_back P p (x ∷ xs) o = chosen (p x) (one_back P p xs) o
  where
    chosen : (b : Bool) → (OneOf P (filter p xs) → OneOf P xs) → OneOf P (if b then x ∷ filter p xs else filter p xs) → OneOf P (x ∷ xs)
    chosen true rest (inl h) = inl h
    chosen true rest (inr k) = inr (rest k)
    chosen false rest k = inr (rest k)

-- a term under other names has the same key
mutual
  renamed_key : (r : ℕ → ℕ) (n : ℕ) (t : TermTree) → term_key n (instance (λ x. variable (r x)) t) ≡ term_key n t
  renamed_key r n (variable x) = refl
  renamed_key r n (apply f ts) = renamed_keys r (mixed n f) ts

  renamed_keys : (r : ℕ → ℕ) (n : ℕ) (ts : TermTrees) → terms_key n (instances (λ x. variable (r x)) ts) ≡ terms_key n ts
  renamed_keys r n no_terms = refl
  renamed_keys r n (and_term t ts) = ap (λ k. terms_key k (instances (λ x. variable (r x)) ts)) (renamed_key r n t) ∙ renamed_keys r (term_key n t) ts

-- so a left side of another key doesn't become this one
other_left : (l : TermTree) (e : ConditionalEquation) (r : ℕ → ℕ) → nat_eq (term_key 0 l) (key_of e) ≡ false →
    instance (λ x. variable (r x)) e.left ≡ l → ⊥
other_left l e r other is = false_true (sym other ∙ eq-eqb (term_key 0 l) (key_of e) (ap (term_key 0) (sym is) ∙ renamed_key r 0 e.left))

from_all : (k : ℕ) (es : List ConditionalEquation) (l : TermTree) (lists : List (List Premise)) → AllFrom (keyed k es) l lists → AllFrom es l lists
from_all k es l [] h = tt
from_all k es l (ps ∷ lists) h = (one_back (IsOfGroup l ps) (λ e. nat_eq k (key_of e)) es h.0, from_all k es l lists h.1)

give_all : (es : List ConditionalEquation) (l : TermTree) (lists : List (List Premise)) → AllGive l lists (keyed (term_key 0 l) es) → AllGive l lists es
give_all es l lists h =
    each_back (λ e. (r : ℕ → ℕ) → instance (λ x. variable (r x)) e.left ≡ l → OneOf (λ ps. IsOfGroup l ps e) lists) (λ e. nat_eq (term_key 0 l) (key_of e)) es
    (λ e other r k. absurd (other_left l e r other k)) h

pub group_of : (theory : Theory) (l : TermTree) (lists : List (List Premise)) (es : List ConditionalEquation) →
    es ≡ keyed (term_key 0 l) theory.equations → AllFrom es l lists → AllGive l lists es → IsGroup theory l lists
group_of theory l lists es is from give = record {
  from_equations = from_all (term_key 0 l) theory.equations l lists (subst (λ xs. AllFrom xs l lists) is from);
  all_equations = give_all theory.equations l lists (subst (AllGive l lists) is give);
}

pub group_if_ok : {A E : Type 0} (theory : Theory) (l : TermTree) (es : List ConditionalEquation) (lists_of : A → List (List Premise))
    (r : Result A E) → es ≡ keyed (term_key 0 l) theory.equations →
    IfOk r (λ a. AllFrom es l (lists_of a)) → IfOk r (λ a. AllGive l (lists_of a) es) → IfOk r (λ a. IsGroup theory l (lists_of a))
group_if_ok theory l es lists_of (Ok a) is from give = group_of theory l (lists_of a) es is from give
group_if_ok theory l es lists_of (Err e) is from give = tt
