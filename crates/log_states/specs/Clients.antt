-- Clients, in the order of their numbers.
use Rattle.std.specs.Prelude.{ℕ, ◌+◌, List, [], ◌∷◌, Bool, true, false, if◌then◌else◌, nat_eq, zero, suc, ◌&&◌, ◌||◌}
use Rattle.log_states.specs.declared.clients.Client.{Client}

-- the numbers of those that are open
abbrev pub open_among : List Client → List ℕ
open_among [] = []
open_among (c ∷ cs) = if c.is_open then c.number ∷ open_among cs else open_among cs

-- whether the client of this number is open
abbrev pub is_open_among : List Client → ℕ → Bool
is_open_among [] number = false
is_open_among (c ∷ cs) number = (c.is_open && nat_eq c.number number) || is_open_among cs number

-- how many offers the client of this number has made
abbrev pub made_by : List Client → ℕ → ℕ
made_by [] number = 0
made_by (c ∷ cs) number = if nat_eq number c.number then c.made else made_by cs number

-- the client isn't open, if it is the one of this number
abbrev pub closed : ℕ → Client → Client
closed number c = if nat_eq c.number number then record { number = c.number; is_open = false; made = c.made } else c

-- the client has made so many offers, if it is the one of this number
abbrev pub having_made : ℕ → ℕ → Client → Client
having_made number count c = if nat_eq c.number number then record { number = c.number; is_open = c.is_open; made = count } else c

-- clients of these numbers, open and without offers
abbrev pub new_client : ℕ → Client
new_client number = record { number = number; is_open = true; made = 0 }

-- so many numbers from this one on
abbrev pub numbers_from : ℕ → ℕ → List ℕ
numbers_from first zero = []
numbers_from first (suc count) = first ∷ numbers_from (first + 1) count
