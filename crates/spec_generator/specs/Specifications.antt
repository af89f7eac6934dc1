-- The specification of a chain of cells. Each cell takes a number at the gate before it and gives it at the gate behind it; the gates between
-- two cells are hidden.
use Rattle.std.specs.Prelude.{ℕ, zero, suc, ◌+◌, ◌-◌, List, ◌++◌, codes, decimal, nat_lt, if◌then◌else◌}
use Rattle.std.specs.List.{join_by, range_with_len}

-- the name of a gate
abbrev pub gate : ℕ → List ℕ
gate j = codes "g" ++ decimal j

-- cell j of the chain, from 1
abbrev pub cell : ℕ → List ℕ
cell j = codes "Cell [" ++ gate (j - 1) ++ codes ", " ++ gate j ++ codes "]"

-- how cell j meets the rest of the chain
abbrev pub meeting : ℕ → List ℕ
meeting j = codes " |[" ++ gate j ++ codes "]| "

-- A chain of cell j and k more cells. Each cell meets the rest at the gate behind it; the rest is in parentheses unless it is one cell.
abbrev pub chain : ℕ → ℕ → List ℕ
chain j zero = cell j
chain j (suc zero) = cell j ++ meeting j ++ cell (j + 1)
chain j (suc (suc k)) = cell j ++ meeting j ++ codes "(" ++ chain (j + 1) (suc k) ++ codes ")"

-- a chain of n cells, with the gates between them hidden; one cell has none
abbrev pub behaviour : ℕ → List ℕ
behaviour n =
    if nat_lt 1 n then
    codes "hide " ++ join_by gate (codes ", ") (range_with_len 1 (n - 1)) ++ codes " in (" ++ chain 1 (n - 1) ++ codes ")"
    else cell 1

-- what stands before the behaviour
abbrev pub heading : ℕ → List ℕ
heading n =
    codes "specification Gen [g0, " ++ gate n ++ codes "] : noexit\n" ++ codes "library Boolean, NaturalNumber endlib\n" ++ codes "behaviour "

-- what stands behind it
abbrev pub ending : List ℕ
ending = codes "\nwhere process Cell [a, b] : noexit := a ?x:Nat; b !x; Cell [a, b] endproc\nendspec\n"

-- the whole text, for n cells
abbrev pub specification_text : ℕ → List ℕ
specification_text n = heading n ++ behaviour n ++ ending
