-- Steps of an evaluation, at terms and lists known by equations.
use Rattle.std.proofs.Common.{ℕ, ◌≡◌, ◌+◌, List, [], ◌∷◌, ◌++◌, refl, ap, sym, subst, ◌∙◌}
use Rattle.std.proofs.Common.{arith, Bool, true, false}
use Rattle.spec_core.specs.Terms.{TermTree, TermTrees, apply, terms, instance}
use Rattle.spec_core.specs.Theories.{Premise, premise, ConditionalEquation, Theory}
use Rattle.spec_core.specs.Evaluation.{Evaluates, EvaluatesAll, Tries, Asks, HaveValues, called, none, more, holds, fails}
use Rattle.spec_core.proofs.Lists.{untrue}

module _ (theory : Theory) where
  pub called_at : (t v : TermTree) (f : ℕ) (ts us vs ws : TermTrees) (es : List ConditionalEquation) (n m : ℕ) →
      t ≡ apply f us → ts ≡ us → ws ≡ vs → es ≡ theory.equations → EvaluatesAll theory ts vs n → Tries theory es f ws v m →
      Evaluates theory t v (n + m)
  called_at t v f ts us vs ws es n m a b c d all tries =
      subst (λ u. Evaluates theory u v (n + m)) (sym a)
      (called vs n m (subst (λ xs. EvaluatesAll theory xs vs n) b all)
      (subst (λ xs. Tries theory theory.equations f xs v m) c (subst (λ xs. Tries theory xs f ws v m) d tries)) refl)

  pub evaluates_push : (ts vs : List TermTree) (t v : TermTree) (n m : ℕ) →
      EvaluatesAll theory (terms ts) (terms vs) n → Evaluates theory t v m →
      EvaluatesAll theory (terms (ts ++ t ∷ [])) (terms (vs ++ v ∷ [])) (n + m)
  evaluates_push [] [] t v n m (none e) d = more m 0 d (none refl) (omega arith)
  evaluates_push [] (w ∷ vs) t v n m h d = elim h [ ]
  evaluates_push (u ∷ ts) [] t v n m h d = elim h [ ]
  evaluates_push (u ∷ ts) (w ∷ vs) t v n m (more i j a b e) d = more i (j + m) a (evaluates_push ts vs t v j m b d) (omega arith)

  pub premise_holds :
      (a b : TermTree) (ps : List Premise) (r : TermTree) (s : ℕ → TermTree) (es : List ConditionalEquation) (f : ℕ) (vs : TermTrees)
      (v : TermTree) (equal : Bool) (k l : ℕ) →
      HaveValues theory (instance s a) (instance s b) equal k → equal ≡ true → Asks theory ps r s es f vs v l →
      Asks theory (premise a b ∷ ps) r s es f vs v (k + l)
  premise_holds a b ps r s es f vs v equal k l h alike rest =
      let same = h.compared.0 alike in
      holds h.left h.left_uses h.right_uses l h.of_left
      (subst (λ w. Evaluates theory (instance s b) w h.right_uses) (sym same) h.of_right) rest (ap (λ n. n + l) h.total)

  pub premise_fails :
      (a b : TermTree) (ps : List Premise) (r : TermTree) (s : ℕ → TermTree) (es : List ConditionalEquation) (f : ℕ) (vs : TermTrees)
      (v : TermTree) (equal : Bool) (k l : ℕ) →
      HaveValues theory (instance s a) (instance s b) equal k → equal ≡ false → Tries theory es f vs v l →
      Asks theory (premise a b ∷ ps) r s es f vs v (k + l)
  premise_fails a b ps r s es f vs v equal k l h unlike_sides rest =
      fails h.left h.right h.left_uses h.right_uses l h.of_left h.of_right
      (λ e. let alike : equal ≡ true = h.compared.1 e in untrue (sym unlike_sides ∙ alike)) rest (ap (λ n. n + l) h.total)
