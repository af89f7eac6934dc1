-- What a shelf gives, and the names that failed.
use Rattle.std.specs.Prelude.{ℕ, ◌≡◌, ◌⊎◌, List, [], ◌∷◌, ◌++◌, map, Option, Some, None, IsSomeAnd, String, Vec, string_bytes, if◌then◌else◌}
use Rattle.std.specs.declared.alloc.Global.{Global}
use Rattle.std.specs.Str.{bytes_eq}
use Rattle.lotos_outside.specs.Counts.{next_count}

-- Where the shelf tells its files, it has one of this name, and the fact holds of its text.
-- Where the shelf tells nothing, nothing is claimed.
abbrev pub OnFetched : Option (List ℕ → Option (List ℕ)) → List ℕ → (List ℕ → Type 0) → Type 0
OnFetched None name P = Unit {0}
OnFetched (Some file_of) name P = IsSomeAnd (file_of name) P

-- this name, and nothing else, was added to the names that failed
abbrev pub Notes : List (List ℕ) → List (List ℕ) → List ℕ → Type 0
Notes before after name = after ≡ before ++ name ∷ []

-- this name was added, or nothing
abbrev pub NotesAtMost : List (List ℕ) → List (List ℕ) → List ℕ → Type 0
NotesAtMost before after name = (after ≡ before) ⊎ Notes before after name

-- each file's name and its text
abbrev pub files_of : List (String Global × Vec ℕ Global) → List (List ℕ × List ℕ)
files_of files = map (λ file. (string_bytes file.0, file.1.items)) files

-- the text of the first file with this name
abbrev pub first_file : List (List ℕ × List ℕ) → List ℕ → Option (List ℕ)
first_file [] name = None
first_file (file ∷ files) name = if bytes_eq file.0 name then Some file.1 else first_file files name

-- A shelf in memory: its files, each a name and a text; the numbers of the calls that fail; how many calls there were;
-- and the names that failed.
pub record ShelfState : Type 0 where
  pub files : List (List ℕ × List ℕ)
  pub fails : List ℕ
  pub calls : ℕ
  pub failed : List (List ℕ)

-- a fetch of this name was counted, and the name may have been noted as one that failed
abbrev pub IsFetchedInMemory : ShelfState → List ℕ → ShelfState → Type 0
IsFetchedInMemory before name after =
    (after ≡ record before { calls = next_count before.calls }) ⊎
    (after ≡ record before { calls = next_count before.calls; failed = before.failed ++ name ∷ [] })
