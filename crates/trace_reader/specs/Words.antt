-- Words that say what follows them.
use Rattle.std.specs.Prelude.{ℕ, ◌≡◌, List, [], ◌∷◌, Option, Some, None}
use Rattle.trace_reader.specs.Cursors.{past}

-- the first of some words with which a text begins, and what stands behind it
pub data First (W : Type 0) : Type 0 where
  no_word : First W
  word : W → List ℕ → First W

abbrev pub first_of : {W : Type 0} → W → Option (List ℕ) → First W → First W
first_of w None more = more
first_of w (Some text) more = word w text

abbrev pub first_word : {W : Type 0} → (W → List ℕ) → List W → Option (List ℕ) → First W
first_word text_of [] old = no_word
first_word text_of (w ∷ words) old = first_of w (past (text_of w) old) (first_word text_of words old)

abbrev pub TakesFirst : {W : Type 0} → First W → Option (List ℕ) → Option W → Option (List ℕ) → Type 0
TakesFirst no_word old found new = (found ≡ None) × (new ≡ old)
TakesFirst (word w text) old found new = (found ≡ Some w) × (new ≡ Some text)
