-- Places in a text (ISO 8807 has none; this profile counts lines and bytes from 1, and a line ends with LF).
use Rattle.std.specs.Prelude.{ℕ, ◌+◌, ◌==◌, List, [], ◌∷◌, if◌then◌else◌}
use Rattle.lotos_ast.specs.declared.place.Place.{Place}

-- the place of a text's first byte
abbrev pub start_place : Place
start_place = record { line = 1; column = 1 }

-- the place behind the byte that stands at a place; 10 is LF
abbrev pub next_place : Place → ℕ → Place
next_place p b = if b == 10 then record { line = p.line + 1; column = 1 } else record { line = p.line; column = p.column + 1 }

-- the place behind the bytes of which the first stands at a place
abbrev pub place_after : Place → List ℕ → Place
place_after p [] = p
place_after p (b ∷ s) = place_after (next_place p b) s
