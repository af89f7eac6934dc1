-- The canonical certificate of an equation: both sides are evaluated, and each is proved equal to its value on the way.
use Rattle.std.specs.Prelude.{ℕ, suc, ◌≡◌, ◌⊎◌, List, [], ◌∷◌, ◌++◌, map}
use Rattle.spec_core.specs.Evaluation.{Evaluates}
use Rattle.spec_core.specs.Terms.{TermTree, TermTrees, apply, no_terms, and_term, instance, preorder}
use Rattle.spec_core.specs.Theories.{Premise, premise, ConditionalEquation, Theory}
use Rattle.equal_proof.specs.Certificates.{variables_of}
use Rattle.canonical_proof.specs.Lines.{Line, turn, chain, inside, uses}

-- the sides of one of the premises, behind those that hold, have different values
abbrev pub OneFails : Theory → (ℕ → TermTree) → List Premise → Type 0
OneFails theory s [] = ⊥
OneFails theory s (premise a b ∷ ps) =
    (w u : TermTree) × (n m : ℕ) × Evaluates theory (instance s a) w n × Evaluates theory (instance s b) u m ×
    ((w ≡ u → ⊥) ⊎ ((w ≡ u) × OneFails theory s ps))

-- the equation doesn't apply to the operation over values: its left side doesn't match, or one of its premises fails
abbrev pub IsPassedOver : Theory → ConditionalEquation → ℕ → TermTrees → Type 0
IsPassedOver theory e f vs =
    ((s : ℕ → TermTree) → instance s e.left ≡ apply f vs → ⊥) ⊎
    ((s : ℕ → TermTree) × (instance s e.left ≡ apply f vs) × OneFails theory s e.premises)

-- what the substitution gives these variables, in preorder
abbrev pub given_by : (ℕ → TermTree) → List ℕ → List (List ℕ)
given_by s xs = map (λ x. preorder (s x)) xs

-- the use of the equation of this number: the terms are those for the variables of its left side, by their first occurrences
abbrev pub use_of : ConditionalEquation → ℕ → (ℕ → TermTree) → Line
use_of e number s = uses number (given_by s (variables_of e.left))

mutual
  -- The term has this value; the lines that prove it equal to its value are written behind those before. First come those of the
  -- arguments, and the operation over them: so the term is equal to the operation over the values.
  pub data Writes (theory : Theory) : TermTree → TermTree → List Line → List Line → Type 0 where
    of_call : {f : ℕ} {ts : TermTrees} {v : TermTree} {before after : List Line} (vs : TermTrees) (middle : List Line) →
        WritesAll theory ts vs before middle →
        WritesCall theory 0 theory.equations f vs v (middle ++ inside f ∷ []) after →
        Writes theory (apply f ts) v before after

  -- the same for each of a list of terms, from the left
  pub data WritesAll (theory : Theory) : TermTrees → TermTrees → List Line → List Line → Type 0 where
    none_written : {before after : List Line} → after ≡ before → WritesAll theory no_terms no_terms before after
    one_written : {t v : TermTree} {ts vs : TermTrees} {before after : List Line} (middle : List Line) →
        Writes theory t v before middle →
        WritesAll theory ts vs middle after →
        WritesAll theory (and_term t ts) (and_term v vs) before after

  -- The operation over values, with these equations left, the first by its number. The first one that applies is used: behind its
  -- premises stand its use and a chain, and behind what its right side's instance writes another chain. Where none applies, the operation
  -- over the values is a value.
  pub data WritesCall (theory : Theory) : ℕ → List ConditionalEquation → ℕ → TermTrees → TermTree → List Line → List Line → Type 0 where
    stays : {number f : ℕ} {vs : TermTrees} {v : TermTree} {before after : List Line} →
        v ≡ apply f vs →
        after ≡ before →
        WritesCall theory number [] f vs v before after
    passed :
        {number : ℕ} {e : ConditionalEquation} {es : List ConditionalEquation} {f : ℕ} {vs : TermTrees} {v : TermTree}
        {before after : List Line} →
        IsPassedOver theory e f vs →
        WritesCall theory (suc number) es f vs v before after →
        WritesCall theory number (e ∷ es) f vs v before after
    applied :
        {number : ℕ} {e : ConditionalEquation} {es : List ConditionalEquation} {f : ℕ} {vs : TermTrees} {v : TermTree}
        {before after : List Line} (s : ℕ → TermTree) (premised reached : List Line) →
        instance s e.left ≡ apply f vs →
        WritesPremises theory s e.premises before premised →
        Writes theory (instance s e.right) v (premised ++ use_of e number s ∷ [] ++ chain ∷ []) reached →
        after ≡ reached ++ chain ∷ [] →
        WritesCall theory number (e ∷ es) f vs v before after

  -- the sides of each premise's instance have one value, so that the one is equal to the other
  pub data WritesPremises (theory : Theory) : (ℕ → TermTree) → List Premise → List Line → List Line → Type 0 where
    none_left : {s : ℕ → TermTree} {before after : List Line} → after ≡ before → WritesPremises theory s [] before after
    one_holds :
        {s : ℕ → TermTree} {a b : TermTree} {ps : List Premise} {before after : List Line} (w : TermTree) (left right : List Line) →
        Writes theory (instance s a) w before left →
        Writes theory (instance s b) w left right →
        WritesPremises theory s ps (right ++ turn ∷ [] ++ chain ∷ []) after →
        WritesPremises theory s (premise a b ∷ ps) before after

-- the canonical certificate of the equation: the sides have one value, and the left one's lines, the right one's, a turn and a chain
-- prove the equation
pub record IsCanonical (theory : Theory) (left right : TermTree) (lines : List Line) : Type 0 where
  pub value : TermTree
  pub middle : List Line
  pub last : List Line
  pub of_left : Writes theory left value [] middle
  pub of_right : Writes theory right value middle last
  pub whole : lines ≡ last ++ turn ∷ [] ++ chain ∷ []
