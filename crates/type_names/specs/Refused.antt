-- What is refused of lists.
use Rattle.std.specs.Prelude.{List, [], ◌∷◌, ◌++◌}
use Rattle.lotos_ast.specs.declared.place.Place.{Place}
use Rattle.lotos_ast.specs.declared.refusal.Refusal.{Refusal}
use Rattle.lotos_ast.specs.declared.refusal.RefusalKind.{RefusalKind}

-- a refusal without names
abbrev pub refused : RefusalKind → Place → Refusal
refused kind place = record { kind = kind; place = place; names = [] }

-- what is refused of the elements of a list, each with those before it
abbrev pub each_after : {A : Type 0} → (List A → A → List Refusal) → List A → List A → List Refusal
each_after f before [] = []
each_after f before (x ∷ xs) = f before x ++ each_after f (before ++ x ∷ []) xs
