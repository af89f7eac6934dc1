-- Laws: types that are read from tokens have the names of these tokens.
use Rattle.std.specs.Prelude.{ℕ, List, [], map}
use Rattle.lotos_ast.specs.declared.spec.Spec.{Spec}
use Rattle.lotos_ast.specs.declared.token.Token.{Token}
use Rattle.lotos_ast.specs.declared.types.TypeDef.{TypeDef}
use Rattle.lotos_ast.specs.ListTrees.{repeated_tree}
use Rattle.lotos_ast.specs.Notation.{part, repeated, specification, type_definition}
use Rattle.lotos_ast.specs.Parsing.{IsParsed, IsParsedBetween}
use Rattle.lotos_ast.specs.SpecTrees.{spec_tree}
use Rattle.lotos_ast.specs.TypeTrees.{type_def_tree}
use Rattle.spec_core.specs.Lists.{Each}
use Rattle.static_constructs.specs.Written.{gates_in}
use Rattle.static_laws.specs.NamedTypes.{IsNamed, IsTypeNamed}
use Rattle.syntax_laws.specs.Tokens.{IsTokenNamed}
use Rattle.lotos_front.specs.Types.{AreTypesOf}

-- types that are read one after another
abbrev pub TypesAreNamed : Type 0
TypesAreNamed = (tokens : List Token) (from after : ℕ) (types : List TypeDef) → Each IsTokenNamed tokens →
    IsParsedBetween (repeated (part type_definition)) tokens from (repeated_tree (map type_def_tree types)) after → Each IsTypeNamed types

-- the gates and the global types of a specification
abbrev pub SpecificationsAreNamed : Type 0
SpecificationsAreNamed = (tokens : List Token) (spec : Spec) → Each IsTokenNamed tokens →
    IsParsed (part specification) tokens (spec_tree spec) [] → Each IsNamed (gates_in spec.gates) × Each IsTypeNamed spec.types.items

-- the types of a text: those of `where` parts too, and those that it takes in of the library
abbrev pub TextTypesAreNamed : Type 0
TextTypesAreNamed = (tokens : List Token) (types : List TypeDef) → Each IsTokenNamed tokens → AreTypesOf tokens types →
    Each IsTypeNamed types
