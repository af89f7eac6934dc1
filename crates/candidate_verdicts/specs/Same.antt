-- Whether two trees of rules are one. (This profile.)
use Rattle.std.specs.Prelude.{◌==◌, ◌&&◌, List, [], ◌∷◌, Bool, true, false}
use Rattle.std.specs.Str.{bytes_eq}
use Rattle.rule_model.specs.declared.rules.Slot.{Slot}
use Rattle.rule_model.specs.declared.rules.Slot.TheVariants.{Of, Mark, Blank}
use Rattle.rule_model.specs.Derivations.{Derivation, pre, int, exiting, chl, chr, val, gate, guard, letting, parl, parr, both, hiding, pass}
use Rattle.rule_model.specs.Derivations.{enstep, enend, disstep, disend, distake, calling, rel}

abbrev pub same_slot : Slot → Slot → Bool
same_slot (Of v) (Of u) = bytes_eq v u
same_slot Mark Mark = true
same_slot Blank Blank = true
same_slot _ _ = false

abbrev pub same_slots : List Slot → List Slot → Bool
same_slots [] [] = true
same_slots (s ∷ ss) (t ∷ ts) = same_slot s t && same_slots ss ts
same_slots _ _ = false

-- rule by rule, with the chosen values and the places of gates
abbrev pub same_rules : Derivation → Derivation → Bool
same_rules (pre ss) (pre ts) = same_slots ss ts
same_rules int int = true
same_rules (exiting ss) (exiting ts) = same_slots ss ts
same_rules (chl d) (chl e) = same_rules d e
same_rules (chr d) (chr e) = same_rules d e
same_rules (val s d) (val t e) = same_slot s t && same_rules d e
same_rules (gate i d) (gate j e) = (i == j) && same_rules d e
same_rules (guard d) (guard e) = same_rules d e
same_rules (letting d) (letting e) = same_rules d e
same_rules (parl d) (parl e) = same_rules d e
same_rules (parr d) (parr e) = same_rules d e
same_rules (both d f) (both e g) = same_rules d e && same_rules f g
same_rules (hiding d) (hiding e) = same_rules d e
same_rules (pass d) (pass e) = same_rules d e
same_rules (enstep d) (enstep e) = same_rules d e
same_rules (enend d) (enend e) = same_rules d e
same_rules (disstep d) (disstep e) = same_rules d e
same_rules (disend d) (disend e) = same_rules d e
same_rules (distake d) (distake e) = same_rules d e
same_rules (calling d) (calling e) = same_rules d e
same_rules (rel d) (rel e) = same_rules d e
same_rules _ _ = false
