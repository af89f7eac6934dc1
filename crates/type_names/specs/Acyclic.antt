-- What holds of types where none is made from itself.
use Rattle.std.specs.Prelude.{◌≡◌, ◌↔◌, List, [], map}
use Rattle.lotos_ast.specs.declared.types.TypeDef.{TypeDef}
use Rattle.type_contents.specs.Contents.{contents, made_from}
use Rattle.type_contents.specs.Uses.{links}
use Rattle.type_cycles.specs.MadeFrom.{AreAcyclic}
use Rattle.type_names.specs.TypeCycles.{cycle_refusals}

-- a cycle is refused exactly where a type is made from itself, directly or through others
abbrev pub CyclesAreRefused : Type 0
CyclesAreRefused = (types : List TypeDef) → (cycle_refusals types ≡ []) ↔ AreAcyclic (map (links types) types)

-- where no type is, each has just what it is made from, others having what they have: the definition by rounds says what the standard
-- says by recursion
abbrev pub ContentsAreMadeFromContents : Type 0
ContentsAreMadeFromContents = (types : List TypeDef) → AreAcyclic (map (links types) types)
    → map (made_from types (contents types)) types ≡ contents types
