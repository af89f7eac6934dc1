-- What tests of numbers and truth values say.
use Rattle.std.proofs.Common.{ℕ, ◌≡◌, refl, sym, ◌∙◌, Bool, true, false, nat_eq, ◌⊎◌, inl, inr}

abbrev pub IsIt : Bool → Type 0
IsIt b = b ≡ true

-- either way
pub by_cases : {A : Type 0} (b : Bool) → (b ≡ true → A) → (b ≡ false → A) → A
by_cases true f g = f refl
by_cases false f g = g refl

pub on_either : {A B C : Type 0} → A ⊎ B → (A → C) → (B → C) → C
on_either (inl a) f g = f a
on_either (inr b) f g = g b
