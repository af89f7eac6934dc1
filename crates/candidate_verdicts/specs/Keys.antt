-- Numbers by which trees of rules are grouped. (This profile.)
use Rattle.std.specs.Prelude.{ℕ, ◌+◌, ◌*◌, ◌%◌, fold}
use Rattle.rule_model.specs.declared.rules.Slot.{Slot}
use Rattle.rule_model.specs.declared.rules.Slot.TheVariants.{Of, Mark, Blank}
use Rattle.rule_model.specs.Derivations.{Derivation, pre, int, exiting, chl, chr, val, gate, guard, letting, parl, parr, both, hiding, pass}
use Rattle.rule_model.specs.Derivations.{enstep, enend, disstep, disend, distake, calling, rel}

-- the number of 32 bits that one number makes of another
abbrev pub mixed : ℕ → ℕ → ℕ
mixed n k = (n * 31 + k + 1) % 4294967296

abbrev pub slot_key : ℕ → Slot → ℕ
slot_key n (Of v) = fold mixed (mixed n 2) v
slot_key n Mark = mixed n 1
slot_key n Blank = mixed n 0

-- over the rules of a tree from the root, with the chosen values and the places of gates
abbrev pub rules_key : ℕ → Derivation → ℕ
rules_key n (pre ss) = fold slot_key (mixed n 0) ss
rules_key n int = mixed n 1
rules_key n (exiting ss) = fold slot_key (mixed n 2) ss
rules_key n (chl d) = rules_key (mixed n 3) d
rules_key n (chr d) = rules_key (mixed n 4) d
rules_key n (val s d) = rules_key (slot_key (mixed n 5) s) d
rules_key n (gate i d) = rules_key (mixed (mixed n 6) i) d
rules_key n (guard d) = rules_key (mixed n 7) d
rules_key n (letting d) = rules_key (mixed n 8) d
rules_key n (parl d) = rules_key (mixed n 9) d
rules_key n (parr d) = rules_key (mixed n 10) d
rules_key n (both d e) = rules_key (rules_key (mixed n 11) d) e
rules_key n (hiding d) = rules_key (mixed n 12) d
rules_key n (pass d) = rules_key (mixed n 13) d
rules_key n (enstep d) = rules_key (mixed n 14) d
rules_key n (enend d) = rules_key (mixed n 15) d
rules_key n (disstep d) = rules_key (mixed n 16) d
rules_key n (disend d) = rules_key (mixed n 17) d
rules_key n (distake d) = rules_key (mixed n 18) d
rules_key n (calling d) = rules_key (mixed n 19) d
rules_key n (rel d) = rules_key (mixed n 20) d

-- the number of the group of a tree
abbrev pub key_of : Derivation → ℕ
key_of d = rules_key 0 d
