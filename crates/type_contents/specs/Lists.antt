-- Words on lists that the other definitions share.
use Rattle.std.specs.Prelude.{ℕ, Bool, List, [], ◌∷◌, ◌++◌, map, Option, Some, None, Vec, if◌then◌else◌}
use Rattle.std.specs.List.{list_any, fold, filter, enumerate_from}
use Rattle.std.specs.declared.alloc.Global.{Global}

-- the parts of a list that may be left out
abbrev pub listed : {A : Type 0} → Option (Vec A Global) → List A
listed None = []
listed (Some all) = all.items

-- these and one more, unless one that is the same is there
abbrev pub with_one : {A : Type 0} → (A → A → Bool) → List A → A → List A
with_one same all x = if list_any (same x) all then all else all ++ x ∷ []

-- each once: the first stands for all that are the same
abbrev pub each_once : {A : Type 0} → (A → A → Bool) → List A → List A
each_once same all = fold (with_one same) [] all

-- those that pass a test, with their numbers from 0
abbrev pub numbered : {A : Type 0} → (A → Bool) → List A → List (ℕ × A)
numbered passes all = filter (λ e. passes e.1) (enumerate_from 0 all)

abbrev pub numbers_of : {A : Type 0} → (A → Bool) → List A → List ℕ
numbers_of passes all = map (λ e. e.0) (numbered passes all)
