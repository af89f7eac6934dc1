-- Marks of types that end.
use Rattle.std.proofs.Common.{ℕ, ◌≡◌, ◌<◌, inl, inr, List, [], length, get_or, set, replicate, arith, ap, subst, sym, ◌∙◌, Bool, true, false}
use Rattle.std.specs.List.{Contains}
use Rattle.std.proofs.lemmas.List.{get_or_past, get_or-replicate, length-set, length-replicate, get_or-set_other}
use Rattle.std.proofs.lemmas.Bool.{cases_eq, cases_lt}
use Rattle.type_cycles.specs.Ends.{Ends, ends, is_marked, MarksEnds}

pub all_marked : (marks : List Bool) (types : List ℕ) → ((i d : ℕ) → i < length types → is_marked marks (get_or types i d) ≡ true) → (j : ℕ) → Contains types j → is_marked marks j ≡ true
all_marked marks types all j (i, within, at) = subst (λ k. is_marked marks k ≡ true) at (all i j within)

-- a type all of which it is made of are marked is marked
pub one_more : (links : List (List ℕ)) (marks : List Bool) (n : ℕ) → n < length links → MarksEnds links marks → ((j : ℕ) → Contains (get_or links n []) j → is_marked marks j ≡ true) → MarksEnds links (set marks n true)
one_more links marks n within marked all = record {
  as_many = length-set marks n true ∙ marked.as_many;
  end = λ k h. elim (cases_eq k n) [
    | inl e ↦ subst (Ends links) (sym e) (ends (λ j c. marked.end j (all j c)))
    | inr d ↦ marked.end k (sym (get_or-set_other marks n k true true d) ∙ h)
  ];
}

pub none_marked : (links : List (List ℕ)) (marks : List Bool) → marks ≡ replicate (length links) false → MarksEnds links marks
none_marked links marks e = record {
  as_many = ap length e ∙ length-replicate (length links) false;
  end = λ k h. elim (cases_lt k (length links)) [
    | inl w ↦ absurd (differ (sym (get_or-replicate (length links) k false true w) ∙ sym (ap (λ zs. get_or zs k true) e) ∙ h))
    | inr p ↦ ends (λ j c. absurd (not_in_none j (subst (λ zs. Contains zs j) (get_or_past links k [] p) c)))
  ];
}
  where
    differ : false ≡ true → ⊥
    differ e = cc

    not_in_none : (j : ℕ) → Contains [] j → ⊥
    not_in_none j (k, within, at) = omega arith
