-- How many terms a list of operations spells.
use Rattle.std.proofs.Common.{ℕ, suc, ◌≡◌, ◌≤◌, ◌+◌, List, [], ◌∷◌, ◌++◌, Option, Some, None, length, refl, sym, ap, subst, ◌∙◌, arith}
use Rattle.std.proofs.Common.{append_assoc}
use Rattle.std.proofs.lemmas.List.{append-nil, length-append}
use Rattle.std.specs.List.{slice_get}
use Rattle.spec_core.specs.Sorts.{OnSome, HasSort, HaveSorts, no_variables}
use Rattle.spec_core.specs.Terms.{TermTree, TermTrees, variable, apply, no_terms, and_term, preorder, preorders, width}
use Rattle.spec_core.specs.Theories.{Operation, Theory}
use Rattle.data_laws.proofs.Fit.{on_use}
use Rattle.spec_core.proofs.Instances.{on_map}
use Rattle.value_terms.specs.Stacks.{HasArguments, HaveArguments}

-- how many arguments an operation has
abbrev pub count_in : Option Operation → ℕ
count_in None = 0
count_in (Some d) = length d.args

count_is : (o : Option Operation) (n : ℕ) → OnSome o (λ d. length d.args ≡ n) → count_in o ≡ n
count_is None n h = absurd h
count_is (Some d) n h = h

some_there : {n : ℕ} (o : Option Operation) (m : ℕ) → OnSome o (λ d. length d.args ≡ n) → n ≤ m → OnSome o (λ d. length d.args ≤ m)
some_there None m h w = absurd h
some_there (Some d) m h w = omega (arith, h, w)

module _ (theory : Theory) where
  -- how many arguments the operations of a list have
  abbrev pub due : List ℕ → ℕ
  due [] = 0
  due (f ∷ w) = count_in (slice_get theory.operations f) + due w

  due_joined : (v w : List ℕ) → due (v ++ w) ≡ due v + due w
  due_joined [] w = omega arith
  due_joined (f ∷ v) w = let k = due_joined v w in omega (arith, k)

  sorted_width : (ts : TermTrees) (sorts : List ℕ) → HaveSorts theory no_variables ts sorts → length sorts ≡ width ts
  sorted_width no_terms [] h = refl
  sorted_width no_terms (c ∷ sorts) h = absurd h
  sorted_width (and_term t ts) [] h = absurd h
  sorted_width (and_term t ts) (c ∷ sorts) h = ap suc (sorted_width ts sorts h.1)

  mutual
    -- a ground term with a sort has its arguments
    pub sorted_arguments : (t : TermTree) (sort : ℕ) → HasSort theory no_variables t sort → HasArguments theory t
    sorted_arguments (variable x) sort h = let n : ⊥ = cc in absurd n
    sorted_arguments (apply f ts) sort h = (
      on_map (slice_get theory.operations f) h (λ d p. sorted_width ts d.args p.1),
      on_use (slice_get theory.operations f) h (λ d p. all_sorted_arguments ts d.args p.1),
    )

    all_sorted_arguments : (ts : TermTrees) (sorts : List ℕ) → HaveSorts theory no_variables ts sorts → HaveArguments theory ts
    all_sorted_arguments no_terms sorts h = tt
    all_sorted_arguments (and_term t ts) [] h = absurd h
    all_sorted_arguments (and_term t ts) (c ∷ sorts) h = (sorted_arguments t c h.0, all_sorted_arguments ts sorts h.1)

  mutual
    -- a term has one symbol more than its operations have arguments
    pub one_more_symbol : (t : TermTree) → HasArguments theory t → length (preorder t) ≡ suc (due (preorder t))
    one_more_symbol (variable x) h = absurd h
    one_more_symbol (apply f ts) h =
        let k = symbols ts h.1 in let n = count_is (slice_get theory.operations f) (width ts) h.0 in omega (arith, k, n)

    symbols : (ts : TermTrees) → HaveArguments theory ts → length (preorders ts) ≡ width ts + due (preorders ts)
    symbols no_terms h = refl
    symbols (and_term t ts) h =
        let k = one_more_symbol t h.0 in
        let l = symbols ts h.1 in
        let m = length-append (preorder t) (preorders ts) in
        let d = due_joined (preorder t) (preorders ts) in
        omega (arith, k, l, m, d)

  -- behind each operation enough terms are spelled for its arguments
  abbrev pub IsEnough : List ℕ → Type 0
  IsEnough [] = Unit {0}
  IsEnough (f ∷ w) = OnSome (slice_get theory.operations f) (λ d. length d.args + due w ≤ length w) × IsEnough w

  not_more : (w : List ℕ) → IsEnough w → due w ≤ length w
  not_more [] h = omega arith
  not_more (f ∷ w) h = go (slice_get theory.operations f) h.0
    where
      go : (o : Option Operation) → OnSome o (λ d. length d.args + due w ≤ length w) → count_in o + due w ≤ suc (length w)
      go None k = absurd k
      go (Some d) k = omega (arith, k)

  enough_here : (o : Option Operation) (n k m : ℕ) → OnSome o (λ d. length d.args ≡ n) → n + k ≤ m →
      OnSome o (λ d. length d.args + k ≤ m)
  enough_here None n k m h w = absurd h
  enough_here (Some d) n k m h w = omega (arith, h, w)

  mutual
    pub enough : (t : TermTree) (r : List ℕ) → HasArguments theory t → IsEnough r → IsEnough (preorder t ++ r)
    enough (variable x) r h e = absurd h
    enough (apply f ts) r h e =
        let k = symbols ts h.1 in
        let l = not_more r e in
        let m = length-append (preorders ts) r in
        let d = due_joined (preorders ts) r in (
          enough_here (slice_get theory.operations f) (width ts) (due (preorders ts ++ r)) (length (preorders ts ++ r)) h.0
              (omega (arith, k, l, m, d)),
          enough_all ts r h.1 e,
        )

    enough_all : (ts : TermTrees) (r : List ℕ) → HaveArguments theory ts → IsEnough r → IsEnough (preorders ts ++ r)
    enough_all no_terms r h e = e
    enough_all (and_term t ts) r h e =
        subst IsEnough (sym (append_assoc (preorder t) (preorders ts) r)) (enough t (preorders ts ++ r) h.0 (enough_all ts r h.1 e))

  -- of a term's operations
  pub enough_of : (t : TermTree) (w : List ℕ) → HasArguments theory t → w ≡ preorder t → IsEnough w
  enough_of t w h is = subst IsEnough (append-nil (preorder t) ∙ sym is) (enough t [] h tt)

  mutual
    -- terms with one list of operations are one term
    one_word : (t u : TermTree) → HasArguments theory t → HasArguments theory u → (r q : List ℕ) → preorder t ++ r ≡ preorder u ++ q →
        (t ≡ u) × (r ≡ q)
    one_word (variable x) u h k r q e = absurd h
    one_word (apply f ts) (variable x) h k r q e = absurd k
    one_word (apply f ts) (apply g us) h k r q e =
        let o : f ≡ g = cc in
        let s : preorders ts ++ r ≡ preorders us ++ q = cc in
        let n = count_is (slice_get theory.operations f) (width ts) h.0 in
        let m = count_is (slice_get theory.operations g) (width us) k.0 in
        let same : width ts ≡ width us = sym n ∙ ap (λ (i : ℕ). count_in (slice_get theory.operations i)) o ∙ m in
        let w = one_words ts us same h.1 k.1 r q s in
        (ap (λ vs. apply f vs) w.0 ∙ ap (λ i. apply i us) o, w.1)

    one_words : (ts us : TermTrees) → width ts ≡ width us → HaveArguments theory ts → HaveArguments theory us → (r q : List ℕ) →
        preorders ts ++ r ≡ preorders us ++ q → (ts ≡ us) × (r ≡ q)
    one_words no_terms no_terms same h k r q e = (refl, e)
    one_words no_terms (and_term u us) same h k r q e = absurd (omega (arith, same))
    one_words (and_term t ts) no_terms same h k r q e = absurd (omega (arith, same))
    one_words (and_term t ts) (and_term u us) same h k r q e =
        let w = one_word t u h.0 k.0 (preorders ts ++ r) (preorders us ++ q)
        (sym (append_assoc (preorder t) (preorders ts) r) ∙ e ∙ append_assoc (preorder u) (preorders us) q) in
        let z = one_words ts us (omega (arith, same)) h.1 k.1 r q w.1 in
        (ap (λ v. and_term v ts) w.0 ∙ ap (and_term u) z.0, z.1)

  pub one_term : (t u : TermTree) → HasArguments theory t → HasArguments theory u → preorder t ≡ preorder u → t ≡ u
  one_term t u h k e = (one_word t u h k [] [] (append-nil (preorder t) ∙ e ∙ sym (append-nil (preorder u)))).0
