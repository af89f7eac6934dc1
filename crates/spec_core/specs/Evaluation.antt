-- Evaluation: arguments first, then the equations in order. (This profile, which follows the tools that run ACT ONE.)
use Rattle.std.specs.Prelude.{ℕ, ◌≡◌, ◌+◌, ◌↔◌, List, [], ◌∷◌, Bool, IsTrue}
use Rattle.spec_core.specs.Terms.{TermTree, TermTrees, apply, no_terms, and_term, instance}
use Rattle.spec_core.specs.Theories.{Premise, premise, ConditionalEquation, Theory}

mutual
  -- the term has this value, after so many uses of equations
  pub data Evaluates (theory : Theory) : TermTree → TermTree → ℕ → Type 0 where
    called : {f : ℕ} {ts : TermTrees} {v : TermTree} {k : ℕ} (vs : TermTrees) (n m : ℕ) →
        EvaluatesAll theory ts vs n →
        Tries theory theory.equations f vs v m →
        k ≡ n + m →
        Evaluates theory (apply f ts) v k

  pub data EvaluatesAll (theory : Theory) : TermTrees → TermTrees → ℕ → Type 0 where
    none : {k : ℕ} → k ≡ 0 → EvaluatesAll theory no_terms no_terms k
    more : {t v : TermTree} {ts vs : TermTrees} {k : ℕ} (n m : ℕ) →
        Evaluates theory t v n →
        EvaluatesAll theory ts vs m →
        k ≡ n + m →
        EvaluatesAll theory (and_term t ts) (and_term v vs) k

  -- the operation over values, with these equations left to be tried; where none is left, it is the value itself
  pub data Tries (theory : Theory) : List ConditionalEquation → ℕ → TermTrees → TermTree → ℕ → Type 0 where
    final : {f : ℕ} {vs : TermTrees} {v : TermTree} {k : ℕ} → v ≡ apply f vs → k ≡ 0 → Tries theory [] f vs v k
    unlike : {e : ConditionalEquation} {es : List ConditionalEquation} {f : ℕ} {vs : TermTrees} {v : TermTree} {k : ℕ} →
        ((s : ℕ → TermTree) → instance s e.left ≡ apply f vs → ⊥) →
        Tries theory es f vs v k →
        Tries theory (e ∷ es) f vs v k
    like :
        {e : ConditionalEquation} {es : List ConditionalEquation} {f : ℕ} {vs : TermTrees} {v : TermTree} {k : ℕ} (s : ℕ → TermTree) →
        instance s e.left ≡ apply f vs →
        Asks theory e.premises e.right s es f vs v k →
        Tries theory (e ∷ es) f vs v k

  -- with these premises left to be asked of an equation that matches
  pub data Asks (theory : Theory) : List Premise → TermTree → (ℕ → TermTree) → List ConditionalEquation → ℕ → TermTrees → TermTree → ℕ →
      Type 0 where
    used : {r : TermTree} {s : ℕ → TermTree} {es : List ConditionalEquation} {f : ℕ} {vs : TermTrees} {v : TermTree} {k : ℕ} (n : ℕ) →
        Evaluates theory (instance s r) v n →
        k ≡ n + 1 →
        Asks theory [] r s es f vs v k
    holds :
        {a b : TermTree} {ps : List Premise} {r : TermTree} {s : ℕ → TermTree} {es : List ConditionalEquation} {f : ℕ} {vs : TermTrees}
        {v : TermTree} {k : ℕ} (w : TermTree) (n m l : ℕ) →
        Evaluates theory (instance s a) w n →
        Evaluates theory (instance s b) w m →
        Asks theory ps r s es f vs v l →
        k ≡ n + m + l →
        Asks theory (premise a b ∷ ps) r s es f vs v k
    fails :
        {a b : TermTree} {ps : List Premise} {r : TermTree} {s : ℕ → TermTree} {es : List ConditionalEquation} {f : ℕ} {vs : TermTrees}
        {v : TermTree} {k : ℕ} (w u : TermTree) (n m l : ℕ) →
        Evaluates theory (instance s a) w n →
        Evaluates theory (instance s b) u m →
        (w ≡ u → ⊥) →
        Tries theory es f vs v l →
        k ≡ n + m + l →
        Asks theory (premise a b ∷ ps) r s es f vs v k

-- the two terms have values that are equal or not, after so many uses for both
pub record HaveValues (theory : Theory) (a b : TermTree) (equal : Bool) (k : ℕ) : Type 0 where
  pub left : TermTree
  pub right : TermTree
  pub left_uses : ℕ
  pub right_uses : ℕ
  pub of_left : Evaluates theory a left left_uses
  pub of_right : Evaluates theory b right right_uses
  pub compared : IsTrue equal ↔ (left ≡ right)
  pub total : k ≡ left_uses + right_uses

mutual
  -- a value that the evaluation of the term meets, also if it doesn't end
  pub data EvaluationMeets (theory : Theory) : TermTree → TermTree → Type 0 where
    its_value : {t w : TermTree} {n : ℕ} → Evaluates theory t w n → EvaluationMeets theory t w
    in_arguments : {f : ℕ} {ts : TermTrees} {w : TermTree} → ArgumentsMeet theory ts w → EvaluationMeets theory (apply f ts) w
    in_call : {f : ℕ} {ts vs : TermTrees} {w : TermTree} {n : ℕ} →
        EvaluatesAll theory ts vs n →
        TriesMeet theory theory.equations f vs w →
        EvaluationMeets theory (apply f ts) w

  pub data ArgumentsMeet (theory : Theory) : TermTrees → TermTree → Type 0 where
    first : {t w : TermTree} {ts : TermTrees} → EvaluationMeets theory t w → ArgumentsMeet theory (and_term t ts) w
    later : {t v w : TermTree} {ts : TermTrees} {n : ℕ} →
        Evaluates theory t v n →
        ArgumentsMeet theory ts w →
        ArgumentsMeet theory (and_term t ts) w

  pub data TriesMeet (theory : Theory) : List ConditionalEquation → ℕ → TermTrees → TermTree → Type 0 where
    passed_over : {e : ConditionalEquation} {es : List ConditionalEquation} {f : ℕ} {vs : TermTrees} {w : TermTree} →
        ((s : ℕ → TermTree) → instance s e.left ≡ apply f vs → ⊥) →
        TriesMeet theory es f vs w →
        TriesMeet theory (e ∷ es) f vs w
    asked : {e : ConditionalEquation} {es : List ConditionalEquation} {f : ℕ} {vs : TermTrees} {w : TermTree} (s : ℕ → TermTree) →
        instance s e.left ≡ apply f vs →
        AsksMeet theory e.premises e.right s es f vs w →
        TriesMeet theory (e ∷ es) f vs w

  pub data AsksMeet (theory : Theory) : List Premise → TermTree → (ℕ → TermTree) → List ConditionalEquation → ℕ → TermTrees → TermTree →
      Type 0 where
    in_right : {r : TermTree} {s : ℕ → TermTree} {es : List ConditionalEquation} {f : ℕ} {vs : TermTrees} {w : TermTree} →
        EvaluationMeets theory (instance s r) w →
        AsksMeet theory [] r s es f vs w
    in_left_side :
        {a b : TermTree} {ps : List Premise} {r : TermTree} {s : ℕ → TermTree} {es : List ConditionalEquation} {f : ℕ} {vs : TermTrees}
        {w : TermTree} →
        EvaluationMeets theory (instance s a) w →
        AsksMeet theory (premise a b ∷ ps) r s es f vs w
    in_right_side :
        {a b : TermTree} {ps : List Premise} {r : TermTree} {s : ℕ → TermTree} {es : List ConditionalEquation} {f : ℕ} {vs : TermTrees}
        {v w : TermTree} {n : ℕ} →
        Evaluates theory (instance s a) v n →
        EvaluationMeets theory (instance s b) w →
        AsksMeet theory (premise a b ∷ ps) r s es f vs w
    after_equal :
        {a b : TermTree} {ps : List Premise} {r : TermTree} {s : ℕ → TermTree} {es : List ConditionalEquation} {f : ℕ} {vs : TermTrees}
        {v w : TermTree} {n m : ℕ} →
        Evaluates theory (instance s a) v n →
        Evaluates theory (instance s b) v m →
        AsksMeet theory ps r s es f vs w →
        AsksMeet theory (premise a b ∷ ps) r s es f vs w
    after_unequal :
        {a b : TermTree} {ps : List Premise} {r : TermTree} {s : ℕ → TermTree} {es : List ConditionalEquation} {f : ℕ} {vs : TermTrees}
        {v u w : TermTree} {n m : ℕ} →
        Evaluates theory (instance s a) v n →
        Evaluates theory (instance s b) u m →
        (v ≡ u → ⊥) →
        TriesMeet theory es f vs w →
        AsksMeet theory (premise a b ∷ ps) r s es f vs w
