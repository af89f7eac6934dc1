-- What is there or not, and what holds of results.
use Rattle.std.proofs.Common.{◌≡◌, refl, false, Option, Some, None, Result, Ok, Err}
use Rattle.std.specs.Option.{IfNone, is_some, option_map, option_and_then}
use Rattle.std.specs.Result.{IfOk}

pub some_none : {A : Type 0} {x : A} (o : Option A) → o ≡ Some x → o ≡ None → ⊥
some_none o e n = cc

pub if_none_at : {A P : Type 0} (o : Option A) → o ≡ None → IfNone o P → P
if_none_at None e h = h
if_none_at (Some x) e h = cc

pub not_some : {A : Type 0} (o : Option A) → is_some o ≡ false → o ≡ None
not_some None e = refl
not_some (Some x) e = absurd (cc)

pub not_mapped : {A B : Type 0} (f : A → B) (o : Option A) → option_map f o ≡ None → o ≡ None
not_mapped f None e = refl
not_mapped f (Some x) e = absurd (cc)

pub map_some : {A B : Type 0} (o : Option A) (f : A → B) (y : B) → option_map f o ≡ Some y → (x : A) × (o ≡ Some x) × (f x ≡ y)
map_some None f y e = let no : ⊥ = cc in absurd no
map_some (Some x) f y e = let s : f x ≡ y = cc in (x, refl, s)

pub then_some : {A B : Type 0} (o : Option A) (f : A → Option B) (y : B) → option_and_then f o ≡ Some y → (x : A) × (o ≡ Some x) × (f x ≡ Some y)
then_some None f y e = let no : ⊥ = cc in absurd no
then_some (Some x) f y e = (x, refl, e)

pub if_ok_two : {T E : Type 0} {P Q R : T → Type 0} (r : Result T E) → ((x : T) → P x → Q x → R x) → IfOk r P → IfOk r Q → IfOk r R
if_ok_two (Ok x) f p q = f x p q
if_ok_two (Err e) f p q = tt

pub if_ok_three : {T E : Type 0} {P Q R S : T → Type 0} (r : Result T E) → ((x : T) → P x → Q x → R x → S x) →
    IfOk r P → IfOk r Q → IfOk r R → IfOk r S
if_ok_three (Ok x) f p q s = f x p q s
if_ok_three (Err e) f p q s = tt
