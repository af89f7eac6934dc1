use Rattle.std.proofs.Common.{◌≡◌, List, map, ◌++◌, take}
use Rattle.lotos_ast.specs.declared.types.TypeDef.{TypeDef}
use Rattle.type_contents.specs.TypeIndexes.{IsTypeIndexOf}
use Rattle.type_contents.specs.Uses.{number_of}
use Rattle.type_contents.proofs.schedule.add_links.Given as goal

abbrev pub invariant-loop-name : goal.invariant-loop-name
invariant-loop-name l = (types : List TypeDef) → IsTypeIndexOf l.index types → l.all.items ≡ l.initial.all.items ++ map (number_of types) (take l.name-index l.names)
