-- Lists of terms, premises and equations that a loop goes over.
use Rattle.std.proofs.Common.{ℕ, zero, suc, ◌≡◌, ◌<◌, ◌+◌, ◌↔◌, List, [], ◌∷◌, ◌++◌, length, map, take, get_or, add-one, sym, subst}
use Rattle.std.proofs.Common.{ap, arith, inl, inr, ◌∙◌, append_assoc}
use Rattle.std.proofs.Common.{Bool, Result, Ok, Err, IfOk}
use Rattle.std.proofs.lemmas.List.{append-nil}
use Rattle.equation_faults.specs.Faults.{AreHeads}
use Rattle.equation_sets.specs.Members.{IsIn}
use Rattle.spec_core.specs.declared.equation.Equation.{Equation}
use Rattle.spec_core.specs.declared.term.Term.{Term}
use Rattle.spec_core.specs.Constructors.{IsPattern, ArePatterns}
use Rattle.spec_core.specs.Lists.{OneOf, IsOneOf}
use Rattle.spec_core.specs.Terms.{terms, term_of}
use Rattle.spec_core.specs.Theories.{Theory, Premise, ConditionalEquation, Heads, premise_of, equation_of}
use Rattle.spec_core.proofs.Lists.{map_next}
use Rattle.spec_core.proofs.Members.{one_left, one_parts, one_right, some_left, some_parts, some_right}
use Rattle.equation_faults.specs.Variables.{variables, all_variables, premise_variables, premises_variables}
use Rattle.equation_shapes.proofs.TermLists.{each_at, each_more}

module _ (theory : Theory) where
  pub patterns_at : (xs : List Term) (i : ℕ) (x : Term) → i < length xs → x ≡ get_or xs i x →
      ArePatterns theory (terms (map term_of xs)) → IsPattern theory (term_of x)
  patterns_at = each_at (IsPattern theory) (ArePatterns theory) tt (λ t ts h k. (h, k)) (λ t ts h. h.0) (λ t ts h. h.1)

  pub patterns_next : (xs : List Term) (i : ℕ) (x : Term) → i < length xs → x ≡ get_or xs i x →
      ArePatterns theory (terms (map term_of (take i xs))) → IsPattern theory (term_of x) →
      ArePatterns theory (terms (map term_of (take (i + 1) xs)))
  patterns_next = each_more (IsPattern theory) (ArePatterns theory) tt (λ t ts h k. (h, k)) (λ t ts h. h.0) (λ t ts h. h.1)

-- the variables of one more term
all_suc : (xs : List Term) (i : ℕ) (x : Term) → i < length xs → x ≡ get_or xs i x →
    all_variables (terms (map term_of (take (suc i) xs))) ≡ all_variables (terms (map term_of (take i xs))) ++ variables (term_of x)
all_suc [] i x w a = absurd (omega arith)
all_suc (y ∷ xs) zero x w a = append-nil (variables (term_of y)) ∙ ap (λ z. variables (term_of z)) (sym a)
all_suc (y ∷ xs) (suc i) x w a =
    ap (λ zs. variables (term_of y) ++ zs) (all_suc xs i x (omega arith) a)
    ∙ sym (append_assoc (variables (term_of y)) (all_variables (terms (map term_of (take i xs)))) (variables (term_of x)))

pub all_next : (xs : List Term) (i : ℕ) (x : Term) (start old new : List ℕ) → i < length xs → x ≡ get_or xs i x →
    old ≡ start ++ all_variables (terms (map term_of (take i xs))) → new ≡ old ++ variables (term_of x) →
    new ≡ start ++ all_variables (terms (map term_of (take (i + 1) xs)))
all_next xs i x start old new w a before here =
    let before_it = all_variables (terms (map term_of (take i xs))) in
    let e : all_variables (terms (map term_of (take (i + 1) xs))) ≡ before_it ++ variables (term_of x) = rw add-one (all_suc xs i x w a) in
    here ∙ ap (λ z. z ++ variables (term_of x)) before ∙ append_assoc start before_it (variables (term_of x)) ∙ ap (λ z. start ++ z) (sym e)

-- the variables of one more premise
premises_last : (ps : List Premise) (p : Premise) → premises_variables (ps ++ p ∷ []) ≡ premises_variables ps ++ premise_variables p
premises_last [] p = append-nil (premise_variables p)
premises_last (q ∷ ps) p =
    ap (λ z. premise_variables q ++ z) (premises_last ps p)
    ∙ sym (append_assoc (premise_variables q) (premises_variables ps) (premise_variables p))

pub premises_next : (xs : List (Term × Term)) (i : ℕ) (x : Term × Term) (start old middle new : List ℕ) →
    i < length xs → x ≡ get_or xs i x → old ≡ start ++ premises_variables (map premise_of (take i xs)) →
    middle ≡ old ++ variables (term_of x.0) → new ≡ middle ++ variables (term_of x.1) →
    new ≡ start ++ premises_variables (map premise_of (take (i + 1) xs))
premises_next xs i x start old middle new w a before one other =
    let before_it = premises_variables (map premise_of (take i xs)) in
    let e : premises_variables (map premise_of (take (i + 1) xs)) ≡ before_it ++ (variables (term_of x.0) ++ variables (term_of x.1)) =
    ap premises_variables (map_next premise_of xs i x w a) ∙ premises_last (map premise_of (take i xs)) (premise_of x) in
    other ∙ ap (λ z. z ++ variables (term_of x.1)) (one ∙ ap (λ z. z ++ variables (term_of x.0)) before)
    ∙ append_assoc (start ++ before_it) (variables (term_of x.0)) (variables (term_of x.1))
    ∙ append_assoc start before_it (variables (term_of x.0) ++ variables (term_of x.1)) ∙ ap (λ z. start ++ z) (sym e)

-- the operations that head equations, with one more equation
abbrev pub Listed : List ℕ → List ConditionalEquation → Type 0
Listed all es = (f : ℕ) → IsOneOf f all ↔ OneOf (Heads f) es

pub heads_more : (xs : List Equation) (i : ℕ) (x : Equation) (g : ℕ) (old new : List ℕ) → i < length xs → x ≡ get_or xs i x →
    Heads g (equation_of x) → ((f : ℕ) → Heads f (equation_of x) → f ≡ g) → new ≡ old ++ g ∷ [] →
    Listed old (map equation_of (take i xs)) → Listed new (map equation_of (take (i + 1) xs))
heads_more xs i x g old new w a heads only pushed before f =
    let es = map equation_of (take i xs) in
    let e : map equation_of (take (i + 1) xs) ≡ es ++ equation_of x ∷ [] = map_next equation_of xs i x w a in (
      λ o. subst (OneOf (Heads f)) (sym e) (elim (one_parts f old (g ∷ []) (subst (IsOneOf f) pushed o)) [
        | inl k ↦ some_left (Heads f) es (equation_of x ∷ []) ((before f).0 k)
        | inr k ↦ some_right (Heads f) es (equation_of x ∷ [])
            (elim k [ inl s ↦ inl (subst (λ n. Heads n (equation_of x)) (sym s) heads) | inr nil ↦ absurd nil ])
      ]),
      λ o. subst (IsOneOf f) (sym pushed) (elim (some_parts (Heads f) es (equation_of x ∷ []) (subst (OneOf (Heads f)) e o)) [
        | inl k ↦ one_left f old (g ∷ []) ((before f).1 k)
        | inr k ↦ one_right f old (g ∷ []) (elim k [ inl h ↦ inl (only f h) | inr nil ↦ absurd nil ])
      ]),
    )

pub heads_same : (xs : List Equation) (i : ℕ) (x : Equation) (all : List ℕ) → i < length xs → x ≡ get_or xs i x →
    ((f : ℕ) → Heads f (equation_of x) → ⊥) → Listed all (map equation_of (take i xs)) → Listed all (map equation_of (take (i + 1) xs))
heads_same xs i x all w a none before f =
    let es = map equation_of (take i xs) in
    let e : map equation_of (take (i + 1) xs) ≡ es ++ equation_of x ∷ [] = map_next equation_of xs i x w a in (
      λ o. subst (OneOf (Heads f)) (sym e) (some_left (Heads f) es (equation_of x ∷ []) ((before f).0 o)),
      λ o. elim (some_parts (Heads f) es (equation_of x ∷ []) (subst (OneOf (Heads f)) e o)) [
        | inl k ↦ (before f).1 k
        | inr k ↦ elim k [ inl h ↦ absurd (none f h) | inr nil ↦ absurd nil ]
      ],
    )

-- the set of the operations that are listed
pub exact_heads : {M : Type 0} (theory : Theory) (all : List ℕ) → Listed all theory.equations → (answer : Result (List Bool) M) →
    IfOk answer (λ set. (n : ℕ) → IsIn n set ↔ IsOneOf n all) → IfOk answer (AreHeads theory)
exact_heads theory all listed (Ok set) exact = λ f. ((λ i. (listed f).0 ((exact f).0 i)), (λ o. (exact f).1 ((listed f).1 o)))
exact_heads theory all listed (Err fault) exact = tt
