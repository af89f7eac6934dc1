-- What `check` prints.
use Rattle.std.specs.Prelude.{ℕ, List, [], ◌∷◌, ◌++◌, length, codes, decimal}
use Rattle.std.specs.List.{flat_map}
use Rattle.lotos_ast.specs.declared.refusal.Refusal.{Refusal}
use Rattle.lotos_ast.specs.Refusals.{number_of, name_of}
use Rattle.spec_core.specs.Code.{Program}

-- names behind a blank, with a bar between two
abbrev pub names_text : List (List ℕ) → List ℕ
names_text [] = []
names_text (name ∷ names) = codes " " ++ (name ++ flat_map (λ other. codes " | " ++ other) names)

-- a refusal: its number and name, its place, and its names
abbrev pub refusal_text : Refusal → List ℕ
refusal_text r = codes "refused " ++ (decimal (number_of r.kind) ++ (codes " " ++ (name_of r.kind ++ (codes " " ++ (decimal r.place.line
    ++ (codes ":" ++ (decimal r.place.column ++ (names_text r.names ++ codes "\n"))))))))

-- how many sorts, operations, equations and processes an accepted specification has
abbrev pub accepted_text : Program → List ℕ
accepted_text program = codes "accepted sorts " ++ (decimal (length program.theory.sorts)
    ++ (codes " operations " ++ (decimal (length program.theory.operations)
    ++ (codes " equations " ++ (decimal (length program.theory.equations)
    ++ (codes " processes " ++ (decimal program.processes ++ codes "\n")))))))
