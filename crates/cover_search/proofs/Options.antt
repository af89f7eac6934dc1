-- What holds of what is there.
use Rattle.std.proofs.Common.{◌≡◌, Option, Some, None, refl}
use Rattle.spec_core.specs.Sorts.{OnSome}

pub both_on : {A : Type 0} (o : Option A) (P Q : A → Type 0) → OnSome o P → OnSome o Q → (d : A) × (o ≡ Some d) × P d × Q d
both_on None P Q h k = absurd h
both_on (Some d) P Q h k = (d, refl, h, k)

pub on_some : {A : Type 0} (o : Option A) (P : A → Type 0) → OnSome o P → (d : A) × (o ≡ Some d) × P d
on_some None P h = absurd h
on_some (Some d) P h = (d, refl, h)
