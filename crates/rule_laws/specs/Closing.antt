-- Assignments one after another.
use Rattle.std.specs.Prelude.{ℕ, ◌≡◌, ◌⊎◌}
use Rattle.spec_core.specs.Terms.{variable, instance, IsGround}
use Rattle.rule_model.specs.Substitution.{Assignment}

-- each term is ground, or is the variable itself
abbrev pub IsClosing : Assignment → Type 0
IsClosing s = (x : ℕ) → IsGround (s x) ⊎ (s x ≡ variable x)

-- t does at once what s does, and then r
abbrev pub IsAfter : Assignment → Assignment → Assignment → Type 0
IsAfter r s t = (x : ℕ) → instance r (s x) ≡ t x

-- each variable stands for itself
abbrev pub IsEmpty : Assignment → Type 0
IsEmpty s = (x : ℕ) → s x ≡ variable x
