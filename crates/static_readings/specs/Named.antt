-- Processes by their names, as the code keeps them.
use Rattle.std.specs.Prelude.{ℕ, List, Bool, map}
use Rattle.std.specs.Borrow.{Bor}
use Rattle.std.specs.Char.{to_ascii_lowercase}
use Rattle.std.specs.List.{flat_map}
use Rattle.std.specs.Str.{bytes_eq}
use Rattle.static_readings.specs.Sites.{Heading}

-- whether the name of a process is this one, which is given in small letters
abbrev pub has_small_name : List ℕ → Heading → Bool
has_small_name name p = bytes_eq (map to_ascii_lowercase p.name) name

-- the processes of several lists, one list behind the other
abbrev pub one_behind_other : List (Bor (List Heading)) → List Heading
one_behind_other lists = flat_map (λ l. l.now) lists
