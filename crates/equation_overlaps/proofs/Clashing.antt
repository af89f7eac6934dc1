-- Which terms two premises give two different constants.
use Rattle.std.proofs.Common.{ℕ, zero, suc, ◌≡◌, ◌<◌, ◌↔◌, IsTrue, not, nat_eq, List, [], ◌∷◌, map, take, get_or, length, ◌+◌, sym}
use Rattle.std.proofs.Common.{subst, ◌∙◌}
use Rattle.std.proofs.Common.{inl, inr, ◌⊎◌, arith}
use Rattle.std.proofs.Common.{Bool, true, false, refl}
use Rattle.std.proofs.lemmas.Bool.{eqb-true, eqb-false}
use Rattle.equation_overlaps.proofs.Giving.{gives_to_candidates}
use Rattle.equation_overlaps.specs.Given.{candidate}
use Rattle.spec_core.specs.declared.term.Term.{Term}
use Rattle.spec_core.specs.Lists.{OneOf}
use Rattle.spec_core.specs.Orthogonality.{Gives}
use Rattle.spec_core.specs.Terms.{TermTree}
use Rattle.spec_core.specs.Theories.{Premise, Theory, premise_of}
use Rattle.spec_core.proofs.Lists.{map_next}
use Rattle.spec_core.proofs.Members.{some_parts}
use Rattle.equation_overlaps.specs.Exclusion.{ClashAt, Clash}

untrue_not : (b : Bool) → IsTrue (not b) → b ≡ false
untrue_not true h = cc
untrue_not false h = refl

true_not : (b : Bool) → (b ≡ true → ⊥) → IsTrue (not b)
true_not true h = absurd (h refl)
true_not false h = refl

module _ (theory : Theory) (p q : Premise) where
  pub at_constants : (t : TermTree) (c d : ℕ) → Gives theory p t c → ((e : ℕ) → Gives theory p t e → e ≡ c) → Gives theory q t d →
      ((e : ℕ) → Gives theory q t e → e ≡ d) → IsTrue (not (nat_eq c d)) ↔ ClashAt theory p q t
  at_constants t c d given only there alone = (
    λ n. record { one = c; other = d; gives_one = given; gives_other = there; differ = eqb-false c d (untrue_not (nat_eq c d) n) },
    λ x. true_not (nat_eq c d) (λ e. x.differ (only x.one x.gives_one ∙ eqb-true c d e ∙ sym (alone x.other x.gives_other))),
  )

  by_number : (t : TermTree) (n : ℕ) → n < 3 → t ≡ candidate p n → ClashAt theory p q t →
      ClashAt theory p q (candidate p 0) ⊎ ClashAt theory p q (candidate p 1) ⊎ ClashAt theory p q (candidate p 2)
  by_number t zero w e x = inl (subst (ClashAt theory p q) e x)
  by_number t (suc zero) w e x = inr (inl (subst (ClashAt theory p q) e x))
  by_number t (suc (suc zero)) w e x = inr (inr (subst (ClashAt theory p q) e x))
  by_number t (suc (suc (suc n))) w e x = absurd (omega arith)

  pub at_candidates : Clash theory p q →
      ClashAt theory p q (candidate p 0) ⊎ ClashAt theory p q (candidate p 1) ⊎ ClashAt theory p q (candidate p 2)
  at_candidates (t, x) = let g = gives_to_candidates theory p t x.one x.gives_one in by_number t g.0 g.1 g.2 x

-- one of the premises that a loop goes over
module _ (P : Premise → Type 0) where
  pub some_at : (xs : List (Term × Term)) (i : ℕ) (x : Term × Term) → i < length xs → x ≡ get_or xs i x → P (premise_of x) →
      OneOf P (map premise_of xs)
  some_at [] i x w a h = absurd (omega arith)
  some_at (y ∷ xs) zero x w a h = inl (subst (λ z. P (premise_of z)) a h)
  some_at (y ∷ xs) (suc i) x w a h = inr (some_at xs i x (omega arith) a h)

  pub none_next : (xs : List (Term × Term)) (i : ℕ) (x : Term × Term) → i < length xs → x ≡ get_or xs i x →
      (OneOf P (map premise_of (take i xs)) → ⊥) → (P (premise_of x) → ⊥) → OneOf P (map premise_of (take (i + 1) xs)) → ⊥
  none_next xs i x w a before here o =
      elim (some_parts P (map premise_of (take i xs)) (premise_of x ∷ []) (subst (OneOf P) (map_next premise_of xs i x w a) o)) [
        | inl k ↦ before k
        | inr k ↦ elim k [ inl h ↦ here h | inr nil ↦ nil ]
      ]
