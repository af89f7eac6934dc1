-- Which files a call fetches.
use Rattle.std.specs.Prelude.{ℕ, ◌≡◌, ◌⊎◌, List, [], ◌∷◌, Option, Some, None}
use Rattle.command_words.specs.Commands.{Command, run, check, equal, replay, migrate, sim, selfrun}

-- the files that a command names, in the order in which they are fetched
abbrev pub named_files : Option Command → List (List ℕ)
named_files None = []
named_files (Some (run specification script settings workers format)) = specification ∷ script ∷ []
named_files (Some (check specification)) = specification ∷ []
named_files (Some (equal specification first second budget)) = specification ∷ []
named_files (Some (replay specification trace budget)) = specification ∷ trace ∷ []
named_files (Some (migrate specification trace)) = specification ∷ trace ∷ []
named_files (Some (sim specification settings)) = specification ∷ []
named_files (Some (selfrun seed size workers)) = []

-- The shelf was asked for files of these names, from the first on, as far as it was asked, and nothing else was done to it; the relation says
-- what the fetch of a name may make of a shelf.
abbrev pub IsAskedFor : {S : Type 0} → (S → List ℕ → S → Type 0) → List (List ℕ) → S → S → Type 0
IsAskedFor fetches [] before after = after ≡ before
IsAskedFor {S} fetches (name ∷ names) before after =
    (after ≡ before) ⊎ ((between : S) × fetches before name between × IsAskedFor fetches names between after)
