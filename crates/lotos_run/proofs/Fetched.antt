-- What holds of a file that was fetched.
use Rattle.std.proofs.Common.{ℕ, List, Option, Some, None}
use Rattle.std.specs.Prelude.{IsSomeAnd}
use Rattle.lotos_outside.specs.Shelf.{OnFetched}

some_implied : (P Q : List ℕ → Type 0) → ((x : List ℕ) → P x → Q x) → (o : Option (List ℕ)) → IsSomeAnd o P → IsSomeAnd o Q
some_implied P Q implied None h = absurd h
some_implied P Q implied (Some x) h = implied x h

pub fetched_implied : (P Q : List ℕ → Type 0) → ((x : List ℕ) → P x → Q x) → (files : Option (List ℕ → Option (List ℕ))) (name : List ℕ) →
    OnFetched files name P → OnFetched files name Q
fetched_implied P Q implied None name h = tt
fetched_implied P Q implied (Some file_of) name h = some_implied P Q implied (file_of name) h
