-- Shelves that were asked for files.
use Rattle.std.proofs.Common.{ℕ, List, [], ◌∷◌, refl, inl, inr}
use Rattle.lotos_run.specs.Fetches.{IsAskedFor}

pub asked_nothing : {S : Type 0} (fetches : S → List ℕ → S → Type 0) (names : List (List ℕ)) (s : S) → IsAskedFor fetches names s s
asked_nothing fetches [] s = refl
asked_nothing fetches (name ∷ names) s = inl refl

pub asked_more : {S : Type 0} (fetches : S → List ℕ → S → Type 0) (name : List ℕ) (names : List (List ℕ)) (before between after : S) →
    fetches before name between → IsAskedFor fetches names between after → IsAskedFor fetches (name ∷ names) before after
asked_more fetches name names before between after step rest = inr (between, step, rest)

pub asked_first : {S : Type 0} (fetches : S → List ℕ → S → Type 0) (name : List ℕ) (names : List (List ℕ)) (before after : S) →
    fetches before name after → IsAskedFor fetches (name ∷ names) before after
asked_first fetches name names before after step = inr (after, step, asked_nothing fetches names after)
