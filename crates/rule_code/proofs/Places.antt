-- Gates at places of a list, counted from 1.
use Rattle.std.proofs.Common.{ℕ, suc, ◌≡◌, ◌<◌, ◌≤◌, ◌-◌, List, length, map, get_or, option_map, ap, ◌∙◌, arith, Some}
use Rattle.std.proofs.lemmas.List.{length-map}
use Rattle.std.proofs.lemmas.Option.{slice_get-map, slice_get-get_or, slice_get_within}
use Rattle.std.specs.List.{slice_get}
use Rattle.spec_core.specs.declared.items.Gate.{Gate}
use Rattle.spec_core.specs.Numbers.{gate_number}

pub gate_there : (gates : List Gate) (place : ℕ) → (place ≡ 0 → ⊥) → place - 1 < length gates →
    (i : ℕ) × (place ≡ suc i) × (slice_get (map gate_number gates) i ≡ Some (get_or gates (place - 1) (record { 0 = 0 })).0)
gate_there gates place some within = (
  place - 1,
  omega (arith, some),
  slice_get-map gate_number gates (place - 1)
      ∙ ap (option_map gate_number) (slice_get-get_or gates (place - 1) (record { 0 = 0 }) within),
)

pub gate_past : (gates : List Gate) (place : ℕ) → length gates ≤ place - 1 → (i h : ℕ) → place ≡ suc i →
    slice_get (map gate_number gates) i ≡ Some h → ⊥
gate_past gates place past i h is there =
    let within = slice_get_within (map gate_number gates) i h there in
    let counted = length-map gates gate_number in
    omega (arith, past, within, counted, is)
