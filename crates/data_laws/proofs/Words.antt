-- Terms with one list of operations are one term.
use Rattle.std.proofs.Common.{ℕ, ◌≡◌, List, [], ◌∷◌, ◌++◌, refl, sym, ap, subst, ◌∙◌, append_assoc}
use Rattle.std.specs.List.{slice_get}
use Rattle.std.proofs.lemmas.List.{append-nil}
use Rattle.spec_core.specs.Terms.{TermTree, TermTrees, variable, apply, no_terms, and_term, preorder, preorders, IsGround, AreGround}
use Rattle.spec_core.specs.Theories.{Theory}
use Rattle.spec_core.specs.Sorts.{OnSome, HasSort, HaveSorts, no_variables}
use Rattle.spec_core.proofs.Instances.{on_both}
use Rattle.data_laws.proofs.Fit.{on_use}

module _ (theory : Theory) where
  mutual
    one_word : (t u : TermTree) (a b : ℕ) → HasSort theory no_variables t a → HasSort theory no_variables u b → (r q : List ℕ) →
        preorder t ++ r ≡ preorder u ++ q → (t ≡ u) × (r ≡ q)
    one_word (variable x) u a b h k r q e = let n : ⊥ = cc in absurd n
    one_word (apply f ts) (variable x) a b h k r q e = let n : ⊥ = cc in absurd n
    one_word (apply f ts) (apply g us) a b h k r q e =
        let o : f ≡ g = cc in
        let s : preorders ts ++ r ≡ preorders us ++ q = cc in
        let i = subst (λ g. OnSome (slice_get theory.operations g) (λ d. (d.result ≡ b) × HaveSorts theory no_variables us d.args))
        (sym o) k in
        on_both (slice_get theory.operations f) h i
        (λ d m n. let w = one_words ts us d.args m.1 n.1 r q s in (ap (λ vs. apply f vs) w.0 ∙ ap (λ g. apply g us) o, w.1))

    one_words : (ts us : TermTrees) (sorts : List ℕ) → HaveSorts theory no_variables ts sorts → HaveSorts theory no_variables us sorts →
        (r q : List ℕ) → preorders ts ++ r ≡ preorders us ++ q → (ts ≡ us) × (r ≡ q)
    one_words no_terms no_terms sorts h k r q e = (refl, e)
    one_words no_terms (and_term u us) [] h k r q e = absurd k
    one_words no_terms (and_term u us) (c ∷ sorts) h k r q e = absurd h
    one_words (and_term t ts) us [] h k r q e = absurd h
    one_words (and_term t ts) no_terms (c ∷ sorts) h k r q e = absurd k
    one_words (and_term t ts) (and_term u us) (c ∷ sorts) h k r q e =
        let w = one_word t u c c h.0 k.0 (preorders ts ++ r) (preorders us ++ q)
        (sym (append_assoc (preorder t) (preorders ts) r) ∙ e ∙ append_assoc (preorder u) (preorders us) q) in
        let z = one_words ts us sorts h.1 k.1 r q w.1 in
        (ap (λ v. and_term v ts) w.0 ∙ ap (and_term u) z.0, z.1)

  pub one_term : (t u : TermTree) (a b : ℕ) → HasSort theory no_variables t a → HasSort theory no_variables u b →
      preorder t ≡ preorder u → t ≡ u
  one_term t u a b h k e = (one_word t u a b h k [] [] (append-nil (preorder t) ∙ e ∙ sym (append-nil (preorder u)))).0

  mutual
    -- a term with a sort and no variables' sorts has no variables
    pub ground_sorted : (t : TermTree) (a : ℕ) → HasSort theory no_variables t a → IsGround t
    ground_sorted (variable x) a h = let n : ⊥ = cc in n
    ground_sorted (apply f ts) a h = on_use (slice_get theory.operations f) h (λ d p. grounds_sorted ts d.args p.1)

    grounds_sorted : (ts : TermTrees) (sorts : List ℕ) → HaveSorts theory no_variables ts sorts → AreGround ts
    grounds_sorted no_terms sorts h = tt
    grounds_sorted (and_term t ts) [] h = absurd h
    grounds_sorted (and_term t ts) (c ∷ sorts) h = (ground_sorted t c h.0, grounds_sorted ts sorts h.1)
