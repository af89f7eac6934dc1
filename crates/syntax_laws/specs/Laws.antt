-- What trees say of syntax.
use Rattle.std.specs.Prelude.{◌≡◌, List, map}
use Rattle.lotos_ast.specs.declared.token.Token.{Token}
use Rattle.lotos_ast.specs.declared.types.TypeDef.{TypeDef}
use Rattle.lotos_ast.specs.Nesting.{Nesting}
use Rattle.lotos_ast.specs.Notation.{part, repeated, type_definition}
use Rattle.lotos_ast.specs.ListTrees.{repeated_tree}
use Rattle.lotos_ast.specs.Reads.{Reads}
use Rattle.lotos_ast.specs.TypeTrees.{type_def_tree}
use Rattle.syntax_laws.specs.Alike.{AreAlike, AreTypesAlike}

-- a type whose tree is read of tokens is alike each type of that tree
abbrev pub TreesDetermineTypes : Type 0
TreesDetermineTypes = (d : Nesting) (s r : List Token) (a b : TypeDef) → Reads d (part type_definition) s (type_def_tree a) r →
    type_def_tree a ≡ type_def_tree b → AreTypesAlike a b

-- and so are types one after another
abbrev pub TreesDetermineTypeLists : Type 0
TreesDetermineTypeLists = (d : Nesting) (s r : List Token) (as' bs : List TypeDef) →
    Reads d (repeated (part type_definition)) s (repeated_tree (map type_def_tree as')) r →
    map type_def_tree as' ≡ map type_def_tree bs → AreAlike AreTypesAlike as' bs
