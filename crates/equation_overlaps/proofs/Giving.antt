-- A premise gives a term at most one constant.
use Rattle.std.proofs.Common.{ℕ, zero, suc, ◌≡◌, ◌<◌, List, [], ◌∷◌, Option, Some, None, IfNone, length, arith, lit<, sym, ap, subst, ◌∙◌, inl, inr, ◌⊎◌}
use Rattle.std.specs.List.{slice_get}
use Rattle.spec_core.specs.declared.items.Op.{Op}
use Rattle.spec_core.specs.Lists.{Each, OneOf}
use Rattle.spec_core.specs.Orthogonality.{IsNegation, DeniesTerm}
use Rattle.spec_core.specs.Sorts.{OnSome}
use Rattle.spec_core.specs.Terms.{TermTree, variable, apply, no_terms, and_term, constant}
use Rattle.spec_core.specs.Theories.{Premise, premise, ConditionalEquation, Theory, Heads}
use Rattle.equation_overlaps.specs.Given.{GivesByForm, GivesToCandidates, candidate}
use Rattle.equation_overlaps.specs.Library.{IsRule}

-- an operation over a term isn't that term
pub not_itself : (t : TermTree) (f : ℕ) → t ≡ apply f (and_term t no_terms) → ⊥
not_itself (variable x) f e = cc
not_itself (apply g no_terms) f e = cc
not_itself (apply g (and_term u us)) f e =
    let h : u ≡ apply g (and_term u us) = cc in
    let k : us ≡ no_terms = cc in
    not_itself u g (h ∙ ap (λ x. apply g (and_term u x)) k)

rule_value : (f one a two b : ℕ) (e : ConditionalEquation) → IsRule f one a e → IsRule f two b e → (one ≡ two) × (a ≡ b)
rule_value f one a two b e r q =
    let h : apply f (and_term (constant one) no_terms) ≡ apply f (and_term (constant two) no_terms) = sym r.1 ∙ q.1 in
    let k : constant a ≡ constant b = sym r.2 ∙ q.2 in
    (cc, cc)

module _ (f truth one other : ℕ) where
  -- the rule of one reading is a rule of the other, so the readings have one value
  same_rule : (es : List ConditionalEquation) → OneOf (IsRule f truth one) es →
      Each (λ e. Heads f e → IsRule f truth other e ⊎ IsRule f other truth e) es → one ≡ other
  same_rule [] o h = absurd o
  same_rule (e ∷ es) (inr o) h = same_rule es o h.1
  same_rule (e ∷ es) (inl r) h = elim (h.0 (and_term (constant truth) no_terms, r.1)) [
    | inl q ↦ (rule_value f truth one truth other e r q).1
    | inr q ↦ let k = rule_value f truth one other truth e r q in k.1 ∙ k.0
  ]

pub one_false : (theory : Theory) (f truth one other : ℕ) → IsNegation theory f truth one → IsNegation theory f truth other → one ≡ other
one_false theory f truth one other a b = same_rule f truth one other theory.equations a.of_true b.no_other

module _ (theory : Theory) where
  pub one_constant : (p : Premise) (t : TermTree) (c d : ℕ) → GivesByForm theory p t c → GivesByForm theory p t d → c ≡ d
  one_constant p t c d (inl h) (inl k) = let e : premise t (constant c) ≡ premise t (constant d) = sym h ∙ k in cc
  one_constant p t c d (inl h) (inr (inl k)) = let e : premise t (constant c) ≡ premise (constant d) t = sym h ∙ k in cc
  one_constant p t c d (inl h) (inr (inr k)) =
      let e : premise t (constant c) ≡ premise (apply k.negation (and_term t no_terms)) (constant k.yes) = sym h ∙ k.form in
      let s : t ≡ apply k.negation (and_term t no_terms) = cc in
      absurd (not_itself t k.negation s)
  one_constant p t c d (inr (inl h)) (inl k) = let e : premise (constant c) t ≡ premise t (constant d) = sym h ∙ k in cc
  one_constant p t c d (inr (inl h)) (inr (inl k)) = let e : premise (constant c) t ≡ premise (constant d) t = sym h ∙ k in cc
  one_constant p t c d (inr (inl h)) (inr (inr k)) =
      let e : premise (constant c) t ≡ premise (apply k.negation (and_term t no_terms)) (constant k.yes) = sym h ∙ k.form in cc
  one_constant p t c d (inr (inr h)) (inl k) =
      let e : premise t (constant d) ≡ premise (apply h.negation (and_term t no_terms)) (constant h.yes) = sym k ∙ h.form in
      let s : t ≡ apply h.negation (and_term t no_terms) = cc in
      absurd (not_itself t h.negation s)
  one_constant p t c d (inr (inr h)) (inr (inl k)) =
      let e : premise (constant d) t ≡ premise (apply h.negation (and_term t no_terms)) (constant h.yes) = sym k ∙ h.form in cc
  one_constant p t c d (inr (inr h)) (inr (inr k)) =
      let e : premise (apply h.negation (and_term t no_terms)) (constant h.yes) ≡ premise (apply k.negation (and_term t no_terms)) (constant k.yes) = sym h.form ∙ k.form in
      let f : k.negation ≡ h.negation = cc in
      let y : k.yes ≡ h.yes = cc in
      one_false theory h.negation h.yes c d h.library (subst (λ n. IsNegation theory n h.yes d) f (subst (λ n. IsNegation theory k.negation n d) y k.library))

pub gives_to_candidates : (theory : Theory) → GivesToCandidates theory
gives_to_candidates theory (premise a b) t c (k, inl h) = (0, lit< tt, cc)
gives_to_candidates theory (premise a b) t c (k, inr (inl h)) = (1, lit< tt, cc)
gives_to_candidates theory (premise a b) t c (k, inr (inr h)) =
    let e : premise a b ≡ premise (apply h.negation (and_term t no_terms)) (constant h.yes) = h.form in
    let s : a ≡ apply h.negation (and_term t no_terms) = cc in
    (2, lit< tt, sym (ap (λ x. candidate (premise x b) 2) s))

pub is_within : {A : Type 0} (xs : List A) (i : ℕ) (P : A → Type 0) → OnSome (slice_get xs i) P → i < length xs
is_within [] i P h = absurd h
is_within (x ∷ xs) zero P h = omega arith
is_within (x ∷ xs) (suc i) P h = let k = is_within xs i P h in omega (arith, k)

pub denies_none : (theory : Theory) (left right t : TermTree) (f truth : ℕ) →
    left ≡ apply f (and_term t no_terms) → right ≡ constant truth → (found : Option Op) →
    IfNone found ((no : ℕ) → IsNegation theory f truth no → ⊥) → IfNone found ((c : ℕ) → DeniesTerm theory (premise left right) t c → ⊥)
denies_none theory left right t f truth l r (Some x) h = tt
denies_none theory left right t f truth l r None h = λ c d.
    let e : premise left right ≡ premise (apply d.negation (and_term t no_terms)) (constant d.yes) = d.form in
    let a : apply d.negation (and_term t no_terms) ≡ apply f (and_term t no_terms) = cc in
    let b : constant d.yes ≡ constant truth = cc in
    let n : d.negation ≡ f = cc in
    let y : d.yes ≡ truth = cc in
    h c (subst (λ k. IsNegation theory k truth c) n (subst (λ k. IsNegation theory d.negation k c) y d.library))

pub form_none : (theory : Theory) (left right t : TermTree) (found : Option Op) →
    ((c : ℕ) → left ≡ t → right ≡ constant c → ⊥) → ((c : ℕ) → right ≡ t → left ≡ constant c → ⊥) →
    IfNone found ((c : ℕ) → DeniesTerm theory (premise left right) t c → ⊥) →
    IfNone found ((c : ℕ) → GivesByForm theory (premise left right) t c → ⊥)
form_none theory left right t (Some x) a b h = tt
form_none theory left right t None a b h = λ c g. elim g [
  | inl e ↦ a c (cc) (cc)
  | inr o ↦ elim o [ inl e ↦ b c (cc) (cc) | inr d ↦ h c d ]
]
