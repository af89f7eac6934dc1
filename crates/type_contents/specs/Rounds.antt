-- Tables by rounds: what each element of a list has, where it is made from what others have.
use Rattle.std.specs.Prelude.{ℕ, zero, suc, List, map, length}

-- where one is made from another at most so many times over: in round 0 each has nothing, and each round makes all from what the
-- round before made
abbrev pub rounds : {D A : Type 0} → A → (List A → D → A) → List D → ℕ → List A
rounds nothing make all zero = map (λ _. nothing) all
rounds nothing make all (suc n) = map (make (rounds nothing make all n)) all

-- as many rounds as there are elements: where none is made from itself, no chain of elements is longer
abbrev pub table : {D A : Type 0} → A → (List A → D → A) → List D → List A
table nothing make all = rounds nothing make all (length all)
